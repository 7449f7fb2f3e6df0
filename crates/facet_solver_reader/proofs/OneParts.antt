-- Where an object has one reading by a part, that is what is told: of a member, and of a catch-all.
use Rattle.std.proofs.Common.{◌≡◌, sym, subst, [], Some, None, Bool, true, false, IsTrue}
use Rattle.std.proofs.Common.{refl, Bor, ℕ}
use Rattle.facet_solver_reader.specs.declared.document.Document.{Document}
use Rattle.facet_solver_reader.specs.declared.nodes.Nodes.{Nodes}
use Rattle.facet_solver_reader.specs.declared.count.object.Object as read
use Rattle.facet_solver_reader.specs.declared.reading.Reading as code
use Rattle.facet_solver_reader.specs.declared.reading.ReadingKind.TheVariants as kinds
use Rattle.facet_solver_reader.specs.declared.tables.Tables.{Tables}
use Rattle.facet_solver_reader.specs.declared.count.Count.TheVariants.{One}
use Rattle.facet_solver_reader.specs.Branches.{ReadsPart}
use Rattle.facet_solver_reader.specs.Choices.{ChoiceAt, Taken, a_value, having, lacking}
use Rattle.facet_solver_reader.specs.Choices.{taking}
use Rattle.facet_solver_reader.specs.Counted.{IsOnly}
use Rattle.facet_solver_reader.specs.Documents.{Member, Tree, view}
use Rattle.facet_solver_reader.specs.Nodes.{members_in, value_of}
use Rattle.facet_solver_reader.specs.Objects.{Object, Reads, Takes, TakesRest, find}
use Rattle.facet_solver_reader.specs.Parts.{CatchAll, MemberPart, Part, a_catch_all, a_member}
use Rattle.facet_solver_reader.specs.Parts.{of_anything, of_map, of_shape}
use Rattle.facet_solver_reader.specs.Planned.{IsOnlyAt}
use Rattle.facet_solver_reader.specs.Reading.{IsPartCount, object_view}
use Rattle.facet_solver_reader.specs.Readings.{ReadsValue}
use Rattle.facet_solver_reader.specs.Rules.{Rules, anything}
use Rattle.facet_solver_reader.specs.Tables.{rules_at}
use Rattle.facet_solver_reader.specs.Told.{IsTold, TellsAs, as_it_is}
use Rattle.facet_solver_reader.specs.Told.{is_absent, is_present, texts}
use Rattle.facet_solver_reader.specs.ToldObjects.{IsToldField, IsToldRest, IsToldTaken, Rest}
use Rattle.facet_solver_reader.proofs.CatchAlls.{catch_all_images, count_of_no_catch_all}
use Rattle.facet_solver_reader.proofs.Counting.{only_of_images}
use Rattle.facet_solver_reader.proofs.Members.{count_of_having, count_of_missing, having_images, reads_lacking}
use Rattle.facet_solver_reader.proofs.ToldMembers.{TakenTold}

module _ (rules : Rules) (reads : Reads) (object : Object) where
  -- what reads an object by a part that reads it in one way is that way
  pub only_at : (p : Part) (a : ChoiceAt) → IsOnly (ReadsPart rules reads object p)
      → ReadsPart rules reads object p a → IsOnlyAt rules reads object p a
  only_at p a one r = record { only = one; is = sym (one.only a r) }

  -- the value of a member that the object has is read in one way
  pub one_of_member : (m : MemberPart) (v : Tree) → find object.members m.name ≡ Some v
      → IsOnly (ReadsPart rules reads object (a_member m)) → IsOnly (reads m.target v)
  one_of_member m v e one =
      only_of_images (reads m.target v) (ReadsPart rules reads object (a_member m)) having
      (having_images rules reads object m v e) one

  -- so is the member where its value is
  pub one_of_value : (m : MemberPart) (v : Tree) → find object.members m.name ≡ Some v
      → IsOnly (reads m.target v) → IsOnly (ReadsPart rules reads object (a_member m))
  one_of_value m v e one = count_of_having rules reads object m v One e one

  -- a member that the object lacks is read as such
  pub lacks : (m : MemberPart) → find object.members m.name ≡ None
      → IsOnly (ReadsPart rules reads object (a_member m))
      → ReadsPart rules reads object (a_member m) lacking
  lacks m e one = go m.required refl
    where
      go : (b : Bool) → m.required ≡ b → ReadsPart rules reads object (a_member m) lacking
      go true q = absurd (count_of_missing rules reads object m e q one.value one.has)
      go false q = reads_lacking rules reads object m e q

  module _ (k : CatchAll) (one : IsOnly (ReadsPart rules reads object (a_catch_all k))) where
    -- where there is a reading by a catch-all, catch-alls take
    pub takes_here : IsTrue object.takes
    takes_here = go object.takes refl
      where
        go : (b : Bool) → object.takes ≡ b → object.takes ≡ true
        go true e = e
        go false e =
            absurd (count_of_no_catch_all rules reads object k e one.value one.has)

    -- and the members are taken in one way
    pub one_rest : IsOnly (TakesRest rules object (Takes rules reads k) object.members)
    one_rest =
        only_of_images (TakesRest rules object (Takes rules reads k) object.members)
        (ReadsPart rules reads object (a_catch_all k)) taking
        (catch_all_images rules reads object k takes_here) one

    -- in whatever way they are taken, it is that one
    pub only_taking : (t : Taken) → TakesRest rules object (Takes rules reads k) object.members t
        → IsOnlyAt rules reads object (a_catch_all k) (taking t)
    only_taking t h =
        only_at (a_catch_all k) (taking t) one
        ((catch_all_images rules reads object k takes_here).into t h)

-- a map that takes a member in one way reads its value in one way
pub one_of_entry : (rules : Rules) (reads : Reads) (m : Member) (key value : ℕ)
    → IsOnly (Takes rules reads (of_map key value) m) → IsOnly (reads (of_shape value) m.value)
one_of_entry rules reads m key value one =
    record { value = one.value; has = one.has.1; only = λ r q. one.only r (one.has.0, q) }

module _ (t : Tables) (nodes : Nodes) (o : read.Object) where
  -- a member that the object has is told as its value is
  pub field_there : (m : MemberPart) (v : Tree) (w : code.Reading)
      → IsOnly (ReadsPart (rules_at t) (ReadsValue (rules_at t)) (object_view nodes o) (a_member m))
      → find (members_in (value_of nodes o.node)) m.name ≡ Some v
      → IsTold (rules_at t) t.shapes.now m.target v w → IsToldField t nodes o m w
  field_there m v w one e told =
      record {
        read = Some told.reading;
        only = only_at (rules_at t) (ReadsValue (rules_at t)) (object_view nodes o) (a_member m)
            (having told.reading) one
            ((having_images (rules_at t) (ReadsValue (rules_at t)) (object_view nodes o) m v e).into
            told.reading told.reads);
        tells = is_present (members_in (value_of nodes o.node)) m v told.reading w e told.tells;
      }

  -- one that it lacks is told as absent
  pub field_absent : (m : MemberPart) (w : code.Reading)
      → IsOnly (ReadsPart (rules_at t) (ReadsValue (rules_at t)) (object_view nodes o) (a_member m))
      → find (members_in (value_of nodes o.node)) m.name ≡ None
      → w.variants.items ≡ [] → w.kind ≡ kinds.Absent → IsToldField t nodes o m w
  field_absent m w one e variants kind =
      record {
        read = None;
        only = only_at (rules_at t) (ReadsValue (rules_at t)) (object_view nodes o) (a_member m)
            lacking one
            (lacks (rules_at t) (ReadsValue (rules_at t)) (object_view nodes o) m e one);
        tells = is_absent (members_in (value_of nodes o.node)) m w variants kind;
      }

  -- what a catch-all takes of all members is told
  pub rest_told : (k : CatchAll) (r : Rest) → IsPartCount t nodes o (a_catch_all k) One
      → TakenTold (rules_at t) t.shapes.now (object_view nodes o) k
      (members_in (value_of nodes o.node)) (texts r.0.items) r.1.items
      → IsToldRest t nodes o k r
  rest_told k r one h =
      record {
        takes = h.takes;
        only = only_taking (rules_at t) (ReadsValue (rules_at t)) (object_view nodes o) k one h.takes
            h.reads;
        tells = h.tells;
      }

-- what is taken as it is
pub anything_taken : (t : Tables) (m : Member) (w : code.Reading) (d : Bor Document)
    → w.variants.items ≡ [] → w.kind ≡ kinds.Value d → view d.now ≡ m.value
    → IsToldTaken t of_anything m w
anything_taken t m w d variants kind same =
    record {
      reading = a_value;
      takes = refl;
      tells = subst (λ v. TellsAs (rules_at t) t.shapes.now anything v a_value w.variants.items w.kind)
          same
          (subst (λ ns. TellsAs (rules_at t) t.shapes.now anything (view d.now) a_value ns w.kind)
          (sym variants)
          (subst (λ k. TellsAs (rules_at t) t.shapes.now anything (view d.now) a_value [] k) (sym kind)
          (as_it_is anything d)));
    }

-- what a map takes
pub entry_taken : (t : Tables) (m : Member) (key value : ℕ) (w : code.Reading)
    → IsTrue ((rules_at t).is_key key m.name)
    → IsTold (rules_at t) t.shapes.now (of_shape value) m.value w
    → IsToldTaken t (of_map key value) m w
entry_taken t m key value w is told =
    record { reading = told.reading; takes = (is, told.reads); tells = told.tells }
