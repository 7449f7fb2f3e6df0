-- The counts of values as contents of variants and as tags.
use Rattle.std.proofs.Common.{◌≡◌, false}
use Rattle.facet_solver_shape.specs.Names.{Name}
use Rattle.facet_solver_reader.specs.declared.count.Count.{Count}
use Rattle.facet_solver_reader.specs.declared.count.Count.TheVariants.{None as NoCount, One}
use Rattle.facet_solver_reader.specs.Counted.{Counted}
use Rattle.facet_solver_reader.specs.Documents.{Tree, text, object, Members}
use Rattle.facet_solver_reader.specs.Documents.{members}
use Rattle.facet_solver_reader.specs.Kinds.{is_object}
use Rattle.facet_solver_reader.specs.Parts.{ListId}
use Rattle.facet_solver_reader.specs.Objects.{ReadsObject}
use Rattle.facet_solver_reader.specs.Rules.{Rules, as_object}
use Rattle.facet_solver_reader.specs.Values.{Inner, ReadsContent}
use Rattle.facet_solver_reader.specs.Values.{ReadsTag}
use Rattle.facet_solver_reader.proofs.Forms.{count_as_value, count_as_no_value}
use Rattle.facet_solver_reader.proofs.Forms.{count_as_object}

-- content of named fields is read as an object by their parts
pub count_of_object_content : (rules : Rules) (reads : Inner) (id : ListId) (ms : Members)
    (n : Count) → Counted (ReadsObject rules reads.within id (members ms)) n
    → Counted (ReadsContent rules reads (as_object id) (object ms)) n
count_of_object_content rules reads id ms n h =
    count_as_object (λ r. ReadsContent rules reads (as_object id) (object ms) r) n
    (λ h. h) (λ rs h. h) (λ k r h. h) h

-- nothing but an object is
pub count_of_no_object_content : (rules : Rules) (reads : Inner) (id : ListId) (v : Tree)
    → is_object v ≡ false → Counted (ReadsContent rules reads (as_object id) v) NoCount
count_of_no_object_content rules reads id (object ms) e = absurd (cc)
count_of_no_object_content rules reads id v e =
    count_as_no_value (λ r. ReadsContent rules reads (as_object id) v r)
    (λ h. h) (λ rs h. h) (λ c h. h) (λ k r h. h)

-- the text of a tag is read as it
pub count_of_tag : (name x : Name) → x ≡ name → Counted (ReadsTag name (text x)) One
count_of_tag name x e =
    count_as_value (λ r. ReadsTag name (text x) r) e (λ rs h. h) (λ c h. h) (λ k r h. h)
