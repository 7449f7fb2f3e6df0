-- A value is read by its parts: what is read as a target is what the target says, of values within
-- and of the value itself.
use Rattle.std.proofs.Common.{◌≡◌, ◌↔◌, ◌<◌, subst, sym, ℕ, suc, arith}
use Rattle.facet_solver_reader.specs.declared.count.Count.{Count}
use Rattle.facet_solver_reader.specs.Counted.{Counted}
use Rattle.facet_solver_shape.specs.Names.{Name}
use Rattle.facet_solver_reader.specs.Documents.{depth, Tree}
use Rattle.facet_solver_reader.specs.Parts.{Target, of_shape, of_content, of_tag}
use Rattle.facet_solver_reader.specs.Choices.{Reading}
use Rattle.facet_solver_reader.specs.Objects.{Reads}
use Rattle.facet_solver_reader.specs.Rules.{Rules, End, Content}
use Rattle.facet_solver_reader.specs.Values.{ReadsEnd, ReadsContent, ReadsTag, ReadsTarget}
use Rattle.facet_solver_reader.specs.Values.{ReadsDown}
use Rattle.facet_solver_reader.specs.Reached.{IsRanked}
use Rattle.facet_solver_reader.specs.Readings.{ReadsValue, inner}
use Rattle.facet_solver_reader.proofs.Asking.{target_by_asked}
use Rattle.facet_solver_reader.proofs.Within.{ReadsShallower, target_within}
use Rattle.facet_solver_reader.proofs.Unrolling.{inner_down, unrolled}
use Rattle.facet_solver_reader.proofs.Ranks.{ranked_tag}
use Rattle.facet_solver_reader.proofs.Depth.{more_levels}
use Rattle.facet_solver_reader.proofs.Counting.{counted_same}

-- at each depth that a value does not reach, it is read as it is
pub value_at_depth : (rules : Rules) (d : ℕ) (t : Target) (v : Tree) → depth v < d
    → (r : Reading) → ReadsDown rules d t v r ↔ ReadsValue rules t v r
unfolding ReadsValue
value_at_depth rules d t v l r =
    let e = more_levels rules (suc (depth v)) d v (omega arith) (omega arith) t r in (e.1, e.0)

-- a ranked target is read by what it says of the values within and of the value itself
pub value_by_parts : (rules : Rules) (n : ℕ) (t : Target) (v : Tree) → IsRanked n rules t
    → (r : Reading) → ReadsValue rules t v r ↔ ReadsTarget rules (inner rules) t v r
unfolding ReadsValue
value_by_parts rules n t v ranked r =
    let down : ReadsDown rules (suc (depth v)) t v r
    ↔ ReadsTarget rules (inner_down rules (depth v)) t v r =
    unrolled rules (depth v) n t v ranked r in (
      λ h. asked (ReadsDown rules (suc (depth v))) (ReadsValue rules) (λ u q p. p) (λ u q p. p)
          (target_within rules (ReadsDown rules (depth v)) (ReadsValue rules)
          (ReadsDown rules (suc (depth v))) t v out back r (down.0 h)),
      λ h. down.1
          (target_within rules (ReadsValue rules) (ReadsDown rules (depth v))
          (ReadsDown rules (suc (depth v))) t v back out r
          (asked (ReadsValue rules) (ReadsDown rules (suc (depth v))) (λ u q p. p) (λ u q p. p) h)),
    )
  where
    out : ReadsShallower (ReadsDown rules (depth v)) (ReadsValue rules) (depth v)
    out w below u q = (value_at_depth rules (depth v) u w below q).0

    back : ReadsShallower (ReadsValue rules) (ReadsDown rules (depth v)) (depth v)
    back w below u q = (value_at_depth rules (depth v) u w below q).1

    asked : (A B : Reads) → ((u : Target) (q : Reading) → A u v q → B u v q)
        → ((u : Target) (q : Reading) → B u v q → A u v q)
        → ReadsTarget rules (record { within = ReadsValue rules; itself = A }) t v r
        → ReadsTarget rules (record { within = ReadsValue rules; itself = B }) t v r
    asked A B f g =
        target_by_asked rules (ReadsValue rules) A B t v (λ u asks q. f u q) (λ u asks q. g u q) r

-- the count of a ranked target, by what it says
pub count_of_value : (rules : Rules) (n : ℕ) (t : Target) (v : Tree) (c : Count)
    → IsRanked n rules t → Counted (ReadsTarget rules (inner rules) t v) c
    → Counted (ReadsValue rules t v) c
count_of_value rules n t v c ranked h =
    counted_same (ReadsTarget rules (inner rules) t v) (ReadsValue rules t v) c
    (λ r. (value_by_parts rules n t v ranked r).1) (λ r. (value_by_parts rules n t v ranked r).0) h

-- the count of a value as a ranked shape, by its end
pub count_of_shape : (rules : Rules) (n s : ℕ) (e : End) (v : Tree) (c : Count)
    → IsRanked n rules (of_shape s) → rules.end_of s ≡ e
    → Counted (ReadsEnd rules (inner rules) e v) c → Counted (ReadsValue rules (of_shape s) v) c
count_of_shape rules n s e v c ranked is h =
    count_of_value rules n (of_shape s) v c ranked
    (subst (λ x. Counted (ReadsEnd rules (inner rules) x v) c) (sym is) h)

-- the count of a value as the content of a variant, if that is ranked
pub count_of_content : (rules : Rules) (n s k : ℕ) (x : Content) (v : Tree) (c : Count)
    → IsRanked n rules (of_content s k) → rules.content_of s k ≡ x
    → Counted (ReadsContent rules (inner rules) x v) c
    → Counted (ReadsValue rules (of_content s k) v) c
count_of_content rules n s k x v c ranked is h =
    count_of_value rules n (of_content s k) v c ranked
    (subst (λ y. Counted (ReadsContent rules (inner rules) y v) c) (sym is) h)

-- the count of a value as the text of a tag
pub count_of_tag_value : (rules : Rules) (name : Name) (v : Tree) (c : Count)
    → Counted (ReadsTag name v) c → Counted (ReadsValue rules (of_tag name) v) c
count_of_tag_value rules name v c h =
    count_of_value rules 1 (of_tag name) v c (ranked_tag rules 0 name) h
