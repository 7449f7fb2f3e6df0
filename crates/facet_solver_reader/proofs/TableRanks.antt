-- The ranks of what tables lead to.
use Rattle.std.proofs.Common.{◌≡◌, subst, refl, ℕ, zero, suc, ◌+◌, ◌-◌, ◌<◌, Bool, true, List, []}
use Rattle.std.proofs.Common.{◌∷◌, All, Some, slice_get, get_or, arith}
use Rattle.std.proofs.lemmas.List.Elements.{All-nil, All-cons}
use Rattle.std.proofs.lemmas.Option.{slice_get-get_or}
use Rattle.facet_solver_reader.specs.declared.tables.Tables.{Tables}
use Rattle.facet_solver_reader.specs.Parts.{ListId, Target, of_shape, of_content, of_tag}
use Rattle.facet_solver_reader.specs.Reached.{asked_by_kind, IsRanked}
use Rattle.facet_solver_reader.specs.Reading.{IsRankedAlternative, reads_content}
use Rattle.facet_solver_reader.specs.Rules as types
use Rattle.facet_solver_reader.specs.Rules.{Alternative, AlternativeKind, Rules}
use Rattle.facet_solver_reader.specs.Rules.{an_untagged_variant, joins, a_fallback, other}
use Rattle.facet_solver_reader.specs.Tables.{AreTables, ContentIsServed, IsEnd, IsServed}
use Rattle.facet_solver_reader.specs.Tables.{ShapeIsServed, rules_at}
use Rattle.facet_solver_reader.proofs.Ranks.{ranked_alone, ranked_more, ranked_of_content}
use Rattle.facet_solver_reader.proofs.Ranks.{ranked_tag}

-- a shape that tables have is ranked, with a step to spare
ranked_spare : (t : Tables) (s : ℕ) → AreTables t → ShapeIsServed t s
    → IsRanked (t.steps - 1) (rules_at t) (of_shape s)
ranked_spare t s are served =
    let end : IsEnd t s served.0 = are.ends s served.0 served.1 in
    let below : end.ranked.0 < t.steps = end.ranked.1 in
    ranked_more (rules_at t) end.ranked.0 (t.steps - 1) (of_shape s) end.ranked.2 (omega arith)

-- a shape that tables have is ranked
pub ranked_shape : (t : Tables) (s : ℕ) → AreTables t → ShapeIsServed t s
    → IsRanked t.steps (rules_at t) (of_shape s)
ranked_shape t s are served =
    ranked_more (rules_at t) (t.steps - 1) t.steps (of_shape s) (ranked_spare t s are served)
    (omega arith)

-- so is each target that tables have
pub ranked_target : (t : Tables) (u : Target) → AreTables t → IsServed t u
    → IsRanked t.steps (rules_at t) u
ranked_target t (of_shape s) are served = ranked_shape t s are served
ranked_target t (of_content s k) are served =
    let some : 0 < t.steps = are.some_steps in
    let more : suc (t.steps - 1) ≡ t.steps = omega arith in
    subst (λ n. IsRanked n (rules_at t) (of_content s k)) more
    (ranked_of_content (rules_at t) (t.steps - 1) s k
    (λ i e. ranked_spare t i are (subst (ContentIsServed t) e served)))
ranked_target t (of_tag name) are served =
    let some : 0 < t.steps = are.some_steps in
    let more : suc (t.steps - 1) ≡ t.steps = omega arith in
    subst (λ n. IsRanked n (rules_at t) (of_tag name)) more
    (ranked_tag (rules_at t) (t.steps - 1) name)

-- a rank is more than 0
pub rank_some : (rules : Rules) (n : ℕ) (t : Target) → IsRanked n rules t → 0 < n
rank_some rules zero t h = absurd h
rank_some rules (suc n) t h = omega arith

-- what a kind of alternative asks is ranked, if its content is where that is asked
ranked_kind : (rules : Rules) (n : ℕ) (kind : AlternativeKind) (content : Target)
    → (asked_by_kind kind content ≡ content ∷ [] → IsRanked n rules content)
    → All (IsRanked n rules) (asked_by_kind kind content)
ranked_kind rules n joins content f = All-nil (IsRanked n rules)
ranked_kind rules n types.null_alone content f = All-nil (IsRanked n rules)
ranked_kind rules n (types.a_whole range) content f =
    All-cons (IsRanked n rules) content [] (f refl) (All-nil (IsRanked n rules))
ranked_kind rules n types.a_float content f =
    All-cons (IsRanked n rules) content [] (f refl) (All-nil (IsRanked n rules))
ranked_kind rules n a_fallback content f =
    All-cons (IsRanked n rules) content [] (f refl) (All-nil (IsRanked n rules))
ranked_kind rules n other content f =
    All-cons (IsRanked n rules) content [] (f refl) (All-nil (IsRanked n rules))

-- what alternatives of a ranked shape ask is ranked lower
pub ranked_alternatives : (rules : Rules) (steps s : ℕ) (joined : ListId)
    (alone : List Alternative) → IsRanked steps rules (of_shape s)
    → rules.end_of s ≡ an_untagged_variant joined alone
    → All (λ a. IsRankedAlternative rules steps a) alone
ranked_alternatives rules zero s joined alone h e = absurd h
ranked_alternatives rules (suc n) s joined alone h e = λ k d within.
    let a : Alternative = get_or alone k d in
    let there : slice_get alone k ≡ Some a = slice_get-get_or alone k d within in (
      n,
      omega arith,
      ranked_kind rules n a.kind a.content
          (λ asks. ranked_alone rules n s joined alone k a h e there asks),
    )

-- the content that an alternative asks is ranked lower
pub ranked_asked : (rules : Rules) (steps : ℕ) (a : Alternative)
    → IsRankedAlternative rules steps a → asked_by_kind a.kind a.content ≡ a.content ∷ []
    → IsRanked (steps - 1) rules a.content
ranked_asked rules steps a ranked asks =
    let below : steps ≡ ranked.0 + 1 = ranked.1 in
    let same : ranked.0 ≡ steps - 1 = omega arith in
    let all : All (IsRanked ranked.0 rules) (a.content ∷ []) =
    subst (All (IsRanked ranked.0 rules)) asks ranked.2 in
    subst (λ n. IsRanked n rules a.content) same (all 0 a.content (omega arith))

-- a kind of alternative that reads a value as its content asks that
pub content_asked : (kind : AlternativeKind) (whole : Bool) (content : Target)
    → reads_content kind whole ≡ true → asked_by_kind kind content ≡ content ∷ []
content_asked joins whole content e = absurd (cc)
content_asked types.null_alone whole content e = absurd (cc)
content_asked (types.a_whole range) whole content e = refl
content_asked types.a_float whole content e = refl
content_asked a_fallback whole content e = refl
content_asked other whole content e = refl
