use Rattle.std.proofs.Common.{◌≡◌, ℕ, ◌+◌, ◌∷◌, [], ◌++◌, Bool, List, ap, drop, length, subst, sym, take, ◌∙◌, arith}
use Rattle.std.proofs.lemmas.List.{length-map, length-take-le, map-append, take_at, take_more}
use Rattle.facet_solver_types.specs.Links.{links_view}
use Rattle.facet_solver_types.specs.Mentioned.{AddsMarks, AreMentioned}
use Rattle.facet_solver_types.proofs.Mentioned.{mentioned_by}
use Rattle.facet_solver_types.proofs.typing.mentioned.marks.Goals as goal

pub loop-by-preserved : goal.loop-by-preserved
loop-by-preserved c =
    let new = c.mark_others.new.marks in
    let old = c.loop-by.marks.items in
    let by = c.loop-by.by in
    let all = c.args.links.now in
    let found = c.index-links-by.result in
    let links = links_view (take by all) in
    let indices = found.items in
    let adds : AddsMarks old new by indices =
    subst (λ (is : List ℕ). AddsMarks old new by is) c.deref.ensures.value
    (subst (λ (ms : List Bool). AddsMarks ms new by c.deref.result.now) c.deref_mut.ensures.value c.mark_others.ensures) in
    let whole : new ≡ take c.loop-by.marks.len (new ++ drop (length new) old) =
    sym (take_at new (drop (length new) old) c.loop-by.marks.len (c.mark_others.ensures.long ∙ c.deref_mut.ensures.len)) in
    let count : length links ≡ by =
    length-map (take by all) (λ l. l.items) ∙ length-take-le by all (omega (arith, c.loop-by-test.true)) in
    let more : links ++ indices ∷ [] ≡ links_view (take (by + 1) all) =
    sym (ap links_view (take_more all by found c.loop-by-test.true ∙ ap (λ l. take by all ++ l ∷ []) (sym c.index-links-by.is))
    ∙ map-append (λ l. l.items) (take by all) (found ∷ [])) in
    subst (λ (ls : List (List ℕ)). AreMentioned ls (take c.loop-by.marks.len (new ++ drop (length new) old))) more
    (subst (λ (ms : List Bool). AreMentioned (links ++ indices ∷ []) ms) whole
    (mentioned_by links indices old new c.loop-by.invariant (subst (λ (n : ℕ). AddsMarks old new n indices) (sym count) adds)))
