-- Where two readings of a value differ, two branches of a selection read one object, or two
-- variants of an enum read one value.
use Rattle.std.proofs.Common.{◌≡◌, refl, sym, subst, ⊎_elim, ℕ, zero, suc, ◌<◌, List, [], ◌∷◌, Some}
use Rattle.std.proofs.Common.{arith}
use Rattle.facet_solver_reader.specs.declared.plan.Plan.{Plan}
use Rattle.facet_solver_reader.specs.declared.plan.PlannedEnd.{PlannedEnd}
use Rattle.facet_solver_reader.specs.Choices.{Reading, Readings, a_variant, an_object}
use Rattle.facet_solver_checker.specs.Differing.{Differ, DifferEach, Difference, Side, first_differ}
use Rattle.facet_solver_checker.specs.Differing.{at_part, behind, here, into_value, into_variant}
use Rattle.facet_solver_checker.specs.Differing.{joined, later_differ, variant}
use Rattle.facet_solver_reader.specs.Documents.{Tree}
use Rattle.facet_solver_reader.specs.Asking.{Asks}
use Rattle.facet_solver_checker.specs.Leading.{IsWithin, Leads, by_asked, enum_of, into_asked}
use Rattle.facet_solver_checker.specs.Leading.{into_content, into_item, into_object, is_enum}
use Rattle.facet_solver_reader.specs.Objects.{Reads}
use Rattle.facet_solver_reader.specs.Parts.{ListId, Target, of_shape}
use Rattle.facet_solver_reader.specs.Plans.{AreAskedFirst, IsNumberOf, IsPlannedAs, IsPlannedTarget}
use Rattle.facet_solver_reader.specs.Plans.{Meaning}
use Rattle.facet_solver_checker.specs.Atoms.{IsPlanFor}
use Rattle.facet_solver_reader.specs.Reached.{IsRanked, list_of}
use Rattle.facet_solver_checker.specs.Sites.{HasSide, Takes}
use Rattle.facet_solver_reader.specs.Values.{ReadsDown, ReadsEach}
use Rattle.facet_solver_checker.proofs.BothReadings.{AreNumbered, AreWithin, Both, ReadsPair}
use Rattle.facet_solver_checker.proofs.BothReadings.{are_same, ask}
use Rattle.facet_solver_checker.proofs.BothReadings.{both_readings, of_alone, of_joined, of_member}
use Rattle.facet_solver_checker.proofs.BothReadings.{of_objects, of_one, of_two, of_values}
use Rattle.facet_solver_checker.proofs.ObjectSites.{HaveSites, list_site}
use Rattle.facet_solver_checker.proofs.SelfDifferent.{alone_differ, joined_differ, not_same}
use Rattle.facet_solver_checker.proofs.SelfDifferent.{objects_differ, values_differ}
use Rattle.facet_solver_checker.proofs.SelfDifferent.{variants_differ}
use Rattle.facet_solver_checker.proofs.Sites.{SiteFrom, SiteIn}
use Rattle.facet_solver_checker.proofs.TouchedLists.{list_number}
use Rattle.facet_solver_reader.proofs.Pairs.{pair_of}
use Rattle.facet_solver_reader.proofs.Unrolling.{inner_down, unrolled}

-- what planned targets say
abbrev pub ArePlanned : Meaning → Type 0
ArePlanned m = (t : Target) (n : ℕ) → IsNumberOf m t n → (p : PlannedEnd) × IsPlannedAs m t p

-- a target with a number asks fewer targets in turn than its number and one more
pub number_ranks : (m : Meaning) → AreAskedFirst m.rules m.targets → (b n : ℕ) → n < b
    → (t : Target) → IsNumberOf m t n → IsRanked b m.rules t
number_ranks m first zero n less t is = absurd (omega arith)
number_ranks m first (suc b) n less t is = λ u asks.
    let below = first n t u is asks in
    let fewer : below.0 < b = omega (arith, below.1) in
    number_ranks m first b below.0 fewer u below.2

-- two readings of values within one of a target
each_site : (m : Meaning) (plan : Plan) (reads : Reads) → HaveSites m plan reads → (t : Target)
    → (ps : List (Target × Tree)) → AreNumbered m ps → AreWithin m.rules t ps
    → (rs ss : Readings) (k : ℕ) (d : Difference) → DifferEach rs ss k d
    → ReadsEach (ReadsPair reads) ps rs → ReadsEach (ReadsPair reads) ps ss
    → (j : ℕ) → SiteFrom m plan t (behind (into_value j) d)
each_site m plan reads values t [] numbers inside _ _ _ _ (first_differ r s rs ss d h) x y j =
    absurd x
each_site m plan reads values t [] numbers inside _ _ _ _ (later_differ r s rs ss k d h) x y j =
    absurd x
each_site m plan reads values t (p ∷ ps) numbers inside _ _ _ _ (first_differ r s rs ss d h) x y j =
    let site = values p.0 numbers.0.0 p.1 r s d numbers.0.1 x.0 y.0 h in
    record {
      spot = site.spot;
      leads = into_item j t p.0 d.way site.spot inside.0 site.leads;
      site = site.site;
    }
each_site m plan reads values t (p ∷ ps) numbers inside _ _ _ _
    (later_differ r s rs ss k d h) x y j =
    each_site m plan reads values t ps numbers.1 inside.1 rs ss k d h x.1 y.1 j

module _ (m : Meaning) (plan : Plan) (is_for : IsPlanFor m plan) where
  -- two variants of one enum
  variants_site : (depth n id : ℕ) (t : Target) → IsNumberOf m t n → t ≡ of_shape id
      → (a b : Side) → HasSide (m.rules.end_of id) a → HasSide (m.rules.end_of id) b
      → (a ≡ b → ⊥) → (v : Tree) (r s : Reading) → ReadsDown m.rules depth t v r
      → ReadsDown m.rules depth t v s → Takes a r → Takes b s → SiteFrom m plan t (here a b)
  variants_site depth n id t is same a b has_a has_b ne v r s x y takes_r takes_s =
      record {
        spot = enum_of id;
        leads = subst (λ u. Leads m.rules u [] (enum_of id)) (sym same) (is_enum id);
        site = record {
          number = n;
          numbered = subst (λ u. IsNumberOf m u n) same is;
          has_first = has_a;
          has_second = has_b;
          differ = ne;
          depth = depth;
          meet = record {
            value = v;
            first = r;
            second = s;
            first_reads = subst (λ u. ReadsDown m.rules depth u v r) same x;
            second_reads = subst (λ u. ReadsDown m.rules depth u v s) same y;
            first_takes = takes_r;
            second_takes = takes_s;
          };
        };
      }

  -- two readings of a value, where there are sites for those one level less deep, and for those of
  -- targets of lower numbers
  module _ (depth n : ℕ) (deeper : HaveSites m plan (ReadsDown m.rules depth))
      (lower : (u : Target) (k : ℕ) → k < n → IsNumberOf m u k → (v : Tree) (r s : Reading)
      (d : Difference) → ReadsDown m.rules (suc depth) u v r → ReadsDown m.rules (suc depth) u v s
      → Differ r s d → SiteFrom m plan u d)
      (t : Target) (is : IsNumberOf m t n) (v : Tree) where
    -- of one variant
    one_variant_site : (i : ℕ) (r s : Reading)
        → ((e : Difference) → Differ r s e → SiteFrom m plan t (behind (into_variant i) e))
        → (d : Difference) → Differ (a_variant i r) (a_variant i s) d → SiteFrom m plan t d
    one_variant_site i r s inside d h =
        ⊎_elim
        (λ (p : (i ≡ i → ⊥) × (d ≡ here (variant i) (variant i))). absurd (p.0 refl))
        (λ (p : (i ≡ i) × ((e : Difference) × Differ r s e × (d ≡ behind (into_variant i) e))).
        subst (SiteFrom m plan t) (sym p.1.2) (inside p.1.0 p.1.1))
        (variants_differ h i i r s refl refl)

    -- of two
    two_variants_site : (id : ℕ) → t ≡ of_shape id → (i j : ℕ)
        → HasSide (m.rules.end_of id) (variant i) → HasSide (m.rules.end_of id) (variant j)
        → (i ≡ j → ⊥) → (r s : Reading) → ReadsDown m.rules (suc depth) t v (a_variant i r)
        → ReadsDown m.rules (suc depth) t v (a_variant j s) → (d : Difference)
        → Differ (a_variant i r) (a_variant j s) d → SiteFrom m plan t d
    two_variants_site id same i j has_i has_j ne r s x y d h =
        ⊎_elim
        (λ (p : (i ≡ j → ⊥) × (d ≡ here (variant i) (variant j))).
        subst (SiteFrom m plan t) (sym p.1)
        (variants_site (suc depth) n id t is same (variant i) (variant j) has_i has_j
        (λ e. ne (cc)) v (a_variant i r) (a_variant j s) x y refl refl))
        (λ (p : (i ≡ j) × ((e : Difference) × Differ r s e × (d ≡ behind (into_variant i) e))).
        absurd (ne p.0))
        (variants_differ h i j r s refl refl)

    -- through the content of a variant that is asked of the same value
    through_asked : (u : Target) → Asks m.rules t u → (i : ℕ) (e : Difference) → SiteFrom m plan u e
        → SiteFrom m plan t (behind (into_variant i) e)
    through_asked u asks i e h =
        record {
          spot = h.spot;
          leads = into_asked i t u e.way h.spot asks h.leads;
          site = h.site;
        }

    -- through the content of one that is named
    through_content : (u : Target) → IsWithin m.rules t u → (i : ℕ) (e : Difference)
        → SiteFrom m plan u e → SiteFrom m plan t (behind (into_variant i) e)
    through_content u inside i e h =
        record {
          spot = h.spot;
          leads = into_content i t u e.way h.spot inside h.leads;
          site = h.site;
        }

    -- on from another target of the same value
    on_from : (u : Target) → Asks m.rules t u → (d : Difference) → SiteFrom m plan u d
        → SiteFrom m plan t d
    on_from u asks d h =
        record {
          spot = h.spot;
          leads = by_asked t u d.way h.spot asks h.leads;
          site = h.site;
        }

    -- into the list of an object
    into_list : (id : ListId) → list_of m.rules t ≡ Some id → (k : ℕ) (e : Difference)
        → SiteIn m plan id k e → SiteFrom m plan t (behind (at_part k) e)
    into_list id list_is k e h =
        record {
          spot = h.spot;
          leads = into_object t id (at_part k ∷ e.way) h.spot list_is h.leads;
          site = h.site;
        }

    site_of_both : (r s : Reading) (d : Difference) → ReadsDown m.rules (suc depth) t v r
        → ReadsDown m.rules (suc depth) t v s → Both m (inner_down m.rules depth) n t v r s
        → Differ r s d → SiteFrom m plan t d
    site_of_both _ _ d x y (are_same r s e) h = absurd (not_same h e)
    site_of_both _ _ d x y (ask u asks k less number r s a b) h =
        on_from u asks d (lower u k less number v r s d a b h)
    site_of_both _ _ d x y (of_one u asks k less number i r s a b) h =
        one_variant_site i r s
        (λ e g. through_asked u asks i e (lower u k less number v r s e a b g)) d h
    site_of_both _ _ d x y (of_member u inside k number w i r s a b) h =
        one_variant_site i r s
        (λ e g. through_content u inside i e (deeper u k w r s e number a b g)) d h
    site_of_both _ _ d x y (of_two id same i j has_i has_j ne r s) h =
        two_variants_site id same i j has_i has_j ne r s x y d h
    site_of_both _ _ d x y (of_joined id same j has_i has_j c s) h =
        subst (SiteFrom m plan t) (sym (joined_differ h c j s refl refl))
        (variants_site (suc depth) n id t is same joined (variant j) has_i has_j (λ e. absurd (cc))
        v (an_object c) (a_variant j s) x y tt refl)
    site_of_both _ _ d x y (of_alone id same i has_i has_j r e) h =
        subst (SiteFrom m plan t) (sym (alone_differ h i r e refl refl))
        (variants_site (suc depth) n id t is same (variant i) joined has_i has_j (λ p. absurd (cc))
        v (a_variant i r) (an_object e) x y refl tt)
    site_of_both _ _ d x y (of_values ps numbers inside rs ss a b) h =
        let each = values_differ h rs ss refl refl in
        subst (SiteFrom m plan t) (sym each.1.2)
        (each_site m plan (ReadsDown m.rules depth) deeper t ps numbers inside rs ss each.0 each.1.0
        each.1.1 a b each.0)
    site_of_both _ _ d x y (of_objects id list_is k number o c e a b) h =
        let at = objects_differ h c e refl refl in
        let l = list_number m plan is_for t n is id list_is
        (record { choice = c; items = a.items; chooses = a.chooses }) o in
        subst (SiteFrom m plan t) (sym at.1.2)
        (into_list id list_is at.0 at.1.0
        (list_site m plan is_for depth o deeper c e at.0 at.1.0 at.1.1 id l.number l.numbered
        l.touch
        a b))

  -- two readings of a value that nests so deep
  lower_sites : (depth : ℕ) → HaveSites m plan (ReadsDown m.rules depth) → (b k : ℕ) → k < b
      → (u : Target) → IsNumberOf m u k → (v : Tree) (r s : Reading) (d : Difference)
      → ReadsDown m.rules (suc depth) u v r → ReadsDown m.rules (suc depth) u v s → Differ r s d
      → SiteFrom m plan u d
  lower_sites depth deeper zero k less u is v r s d x y h = absurd (omega arith)
  lower_sites depth deeper (suc b) k less u is v r s d x y h =
      let first = is_for.asked_first in
      let ranked = number_ranks m first (suc k) k (omega arith) u is in
      let p = pair_of (IsPlannedTarget m) m.targets plan.targets.items k u is_for.each_target is in
      site_of_both depth k deeper
      (λ w j below number. lower_sites depth deeper b j (omega arith) w number) u is v r s d x y
      (both_readings m (inner_down m.rules depth) k u p.0.end p.2.end
      (λ w asks. first k u w is asks) v r s
      ((unrolled m.rules depth (suc k) u v ranked r).0 x)
      ((unrolled m.rules depth (suc k) u v ranked s).0 y)) h

  pub value_sites : (depth : ℕ) → HaveSites m plan (ReadsDown m.rules depth)
  value_sites zero = λ t n v r s d is x y h. absurd x
  value_sites (suc depth) = λ t n v r s d is x y h.
      lower_sites depth (value_sites depth) (suc n) n (omega arith) t is v r s d x y h
