-- The types that a type mentions, a part at a time.
use Rattle.std.proofs.Common.{◌≡◌, ◌≢◌, ℕ, zero, suc, ◌+◌, ◌-◌, ◌<◌, ◌≤◌, List, ◌∷◌, length, get_or, drop, map, Result, Ok, Err, refl, ap, sym, ◌∙◌, arith, add-one, drop-cons}
use Rattle.std.proofs.lemmas.List.{drop_all}
use Rattle.std.specs.Result.{IsErrAnd}
use Rattle.facet_solver_types.specs.declared.fault.Fault.{Fault}
use Rattle.facet_solver_types.specs.declared.fault.Fault.TheVariants.{OutOfMemory}
use denote.Bor.{Bor}
use Rattle.facet_solver_types.specs.declared.item.Parameter as code_parameter
use Rattle.facet_solver_types.specs.declared.passage.Passage as code_passage
use Rattle.facet_solver_types.specs.declared.site.Site as code_site
use Rattle.facet_solver_types.specs.declared.typing.layer.Head as code_head
use Rattle.facet_solver_types.specs.declared.typing.layer.Head.TheVariants as heads
use Rattle.facet_solver_types.specs.declared.typing.layer.Part as declared
use Rattle.facet_solver_types.specs.Layers.{Layer, head_view, layer_at, part_view}
use Rattle.facet_solver_types.specs.Mentions.{Inside, Mention, Rule, followed, mention_of, mentions, nothing, part_mention, with_mention, with_parts}
use Rattle.facet_solver_types.specs.Outcomes.{Gives}
use Rattle.facet_solver_types.specs.Passages.{Passage}
use Rattle.facet_solver_types.specs.Pieces.{and_then}
use Rattle.facet_solver_types.specs.Scopes.{Scope, too_deep}

-- the rule for the types in a type of so many levels
abbrev pub below : ℕ → Rule
below levels = mentions (levels - 1)

-- no level is left
pub no_levels : (levels : ℕ) (scope : Scope) (p : Passage) → levels ≡ 0
    → mentions levels scope p ≡ Err (too_deep scope)
unfolding mentions
no_levels levels scope p none = ap (λ n. mentions n scope p) none

-- a type of a layer, with what its parts mention
abbrev pub inside_of : ℕ → Scope → Layer → Result Mention Fault
inside_of levels scope layer =
    and_then (with_parts (below levels) scope nothing layer.parts)
    (followed (below levels) scope layer.head)

-- a level is left
some_levels : (levels : ℕ) (scope : Scope) (p : Passage) → 0 < levels
    → mentions levels scope p ≡ and_then (layer_at scope p) (inside_of levels scope)
unfolding mentions
some_levels zero scope p some = absurd (omega arith)
some_levels (suc n) scope p some =
    let same : suc n - 1 ≡ n = omega arith in
    ap (λ k. and_then (layer_at scope p) (λ (layer : Layer).
    and_then (with_parts (mentions k) scope nothing layer.parts)
    (followed (mentions k) scope layer.head))) (sym same)

module _ (levels : ℕ) (scope : Scope) (p : Passage) (some : 0 < levels) where
  -- a layer that is none
  pub layer_fault : (fault : Fault) → layer_at scope p ≡ Err fault
      → mentions levels scope p ≡ Err fault
  layer_fault fault e =
      some_levels levels scope p some ∙ ap (λ r. and_then r (inside_of levels scope)) e

  -- a layer
  pub layer_ok : (layer : Layer) → layer_at scope p ≡ Ok layer
      → mentions levels scope p ≡ inside_of levels scope layer
  layer_ok layer e =
      some_levels levels scope p some ∙ ap (λ r. and_then r (inside_of levels scope)) e

  -- a part that is none
  pub part_fault : (layer : Layer) (fault : Fault) → layer_at scope p ≡ Ok layer
      → with_parts (below levels) scope nothing layer.parts ≡ Err fault
      → mentions levels scope p ≡ Err fault
  part_fault layer fault e f =
      layer_ok layer e ∙ ap (λ r. and_then r (followed (below levels) scope layer.head)) f

  -- all parts
  pub parts_ok : (layer : Layer) (inside : Inside) → layer_at scope p ≡ Ok layer
      → with_parts (below levels) scope nothing layer.parts ≡ Ok inside
      → mentions levels scope p ≡ followed (below levels) scope layer.head inside
  parts_ok layer inside e f =
      layer_ok layer e ∙ ap (λ r. and_then r (followed (below levels) scope layer.head)) f

-- a turn of a loop over parts
module _ (rule : Rule) (scope : Scope) (inside : Inside) (parts : List declared.Part) (at : ℕ)
    (d : declared.Part) (within : at < length parts) where
  here : map part_view (drop at parts)
      ≡ part_view (get_or parts at d) ∷ map part_view (drop (at + 1) parts)
  here =
      let split : drop at parts ≡ get_or parts at d ∷ drop (at + 1) parts =
      rw (add-one, drop-cons parts at d) refl in
      ap (map part_view) split

  -- what is left behind the part
  abbrev later : Mention → Result Inside Fault
  later mention =
      with_parts rule scope (with_mention inside mention) (map part_view (drop (at + 1) parts))

  -- a part that is none
  pub turn_fault : (fault : Fault)
      → part_mention rule scope (part_view (get_or parts at d)) ≡ Err fault
      → with_parts rule scope inside (map part_view (drop at parts)) ≡ Err fault
  turn_fault fault e = ap (with_parts rule scope inside) here ∙ ap (λ r. and_then r later) e

  -- a part
  pub turn_ok : (mention : Mention)
      → part_mention rule scope (part_view (get_or parts at d)) ≡ Ok mention
      → with_parts rule scope inside (map part_view (drop at parts))
      ≡ with_parts rule scope (with_mention inside mention) (map part_view (drop (at + 1) parts))
  turn_ok mention e = ap (with_parts rule scope inside) here ∙ ap (λ r. and_then r later) e

-- no part is left
pub turns_over : (rule : Rule) (scope : Scope) (inside : Inside) (parts : List declared.Part)
    (at : ℕ) → length parts ≤ at
    → with_parts rule scope inside (map part_view (drop at parts)) ≡ Ok inside
turns_over rule scope inside parts at over =
    ap (λ l. with_parts rule scope inside (map part_view l)) (drop_all at parts over)

-- what is no alias is not followed
pub followed_other : (rule : Rule) (scope : Scope) (head : code_head.Head) (inside : Inside)
    → ((site : code_site.Site) (parameters : Bor (List code_parameter.Parameter))
    (written : code_passage.Passage)
    → head ≡ heads.Alias site parameters written → ⊥)
    → followed rule scope (head_view head) inside ≡ mention_of scope (head_view head) inside
followed_other rule scope heads.Same inside other = refl
followed_other rule scope (heads.Bound id) inside other = refl
followed_other rule scope (heads.Declared index name) inside other = refl
followed_other rule scope (heads.Alias site parameters written) inside other =
    absurd (other site parameters written refl)
followed_other rule scope (heads.Scalar name kind) inside other = refl
followed_other rule scope (heads.Dynamic name) inside other = refl
followed_other rule scope (heads.Applied name kind) inside other = refl
followed_other rule scope (heads.Standard name kind) inside other = refl
followed_other rule scope (heads.Array len) inside other = refl
followed_other rule scope heads.Slice inside other = refl
followed_other rule scope heads.Tuple inside other = refl

-- the same outcome is given
pub gives_same : {A B : Type 0} (view : A → B) (one other : Result B Fault) (r : Result A Fault)
    → one ≡ other → Gives view other r → Gives view one r
gives_same view one other (Ok value) e h = e ∙ h
gives_same view one other (Err fault) e h = λ real. e ∙ h real

-- the fault that is passed on is given
pub err_given : {A B : Type 0} (view : A → B) (outcome : Result B Fault) (fault : Fault)
    (r : Result A Fault) → IsErrAnd r (λ e. e ≡ fault)
    → (fault ≢ OutOfMemory → outcome ≡ Err fault) → Gives view outcome r
err_given view outcome fault (Ok value) is told = absurd is
err_given view outcome fault (Err e) is told =
    λ real. told (λ f. real (is ∙ f)) ∙ ap Err (sym is)
