use Rattle.std.proofs.Common.{ℕ, List, [], ◌∷◌, ap, sym, ◌∙◌, arith}
use Rattle.facet_solver_shape.specs.Keys.{key_of}
use Rattle.facet_solver.specs.set.IndexSet.{has_index}
use Rattle.facet_solver.specs.solver.KeyResult.{of_fields}
use Rattle.facet_solver.specs.solver.State.{State, state_of}
use Rattle.facet_solver.proofs.Kept.{first_kept, first_within, kept_count, knows_shape, result_agreed, result_by}
use Rattle.facet_solver.proofs.solver.key_result.key_result.Goals as goal

pub returns-in_default-clause-answer : goal.returns-in_default-clause-answer
returns-in_default-clause-answer c =
    let s : State = state_of c.args.search.now.schema.now c.args.candidates.now.members in
    result_by (key_of c.args.search.now.key) s c.args.entry.now c.requires.entry [] (sym c.in_default.ensures.next ∙ c.common-holders.ensures.members)

pub of_one-requires : goal.of_one-requires
of_one-requires c =
    let e = sym c.common-holders.ensures.members ∙ c.in-Some.ensures.next in
    let low = first_within c.args.candidates.now.bound (has_index c.args.entry.now.set.members) c.args.candidates.now.members c.in-Some.first _ c.common-holders.ensures.within e in
    rw c.requires.bound at low

pub returns-in_default-next-clause-answer : goal.returns-in_default-next-clause-answer
returns-in_default-next-clause-answer c =
    let s : State = state_of c.args.search.now.schema.now c.args.candidates.now.members in
    let first = c.in-Some.first in
    c.of_one.ensures.answer
    ∙ result_by (key_of c.args.search.now.key) s c.args.entry.now c.requires.entry (first ∷ []) (ap (λ rest. first ∷ rest) (sym c.in_default-next.ensures.next) ∙ sym c.in-Some.ensures.next ∙ c.common-holders.ensures.members)

pub returns-in-Some-shape-clause-answer : goal.returns-in-Some-shape-clause-answer
returns-in-Some-shape-clause-answer c =
    let s : State = state_of c.args.search.now.schema.now c.args.candidates.now.members in
    let first = c.in-Some.first in
    let key = key_of c.args.search.now.key in
    let kept = c.common-holders.ensures.members in
    result_agreed key s.schema c.args.entry.now c.in-Some-shape.shape first c.in-Some-next.second c.next-2.new.self.items c.in-Some-shape.is c.requires.entry
    (first_kept (has_index c.args.entry.now.set.members) c.args.candidates.now.members first _ (sym kept ∙ c.in-Some.ensures.next))
    ∙ result_by key s c.args.entry.now c.requires.entry (first ∷ c.in-Some-next.second ∷ c.next-2.new.self.items)
    (ap (λ rest. first ∷ rest) (sym c.in-Some-next.ensures.next) ∙ sym c.in-Some.ensures.next ∙ kept)

pub returns-clause-answer : goal.returns-clause-answer
returns-clause-answer c =
    let s : State = state_of c.args.search.now.schema.now c.args.candidates.now.members in
    let first = c.in-Some.first in
    let indices : List ℕ = first ∷ c.in-Some-next.second ∷ c.next-2.new.self.items in
    c.of_fields.ensures.answer
    ∙ ap of_fields c.in_ok-fields.ensures.fields
    ∙ result_by (key_of c.args.search.now.key) s c.args.entry.now c.requires.entry indices
    (ap (λ rest. first ∷ rest) (sym c.in-Some-next.ensures.next) ∙ sym c.in-Some.ensures.next ∙ c.common-holders.ensures.members)

pub returns-in_err-fields-clause-searches : goal.returns-in_err-fields-clause-searches
returns-in_err-fields-clause-searches c =
    let s : State = state_of c.args.search.now.schema.now c.args.candidates.now.members in
    let indices : List ℕ = c.in-Some.first ∷ c.in-Some-next.second ∷ c.next-2.new.self.items in
    let count = kept_count (key_of c.args.search.now.key) s c.args.entry.now c.requires.entry indices
    (ap (λ rest. c.in-Some.first ∷ rest) (sym c.in-Some-next.ensures.next) ∙ sym c.in-Some.ensures.next ∙ c.common-holders.ensures.members) in
    omega (arith, count, c.in_err-fields.ensures.searches, c.in-Some-next.ensures.searches, c.in-Some.ensures.searches, c.common-holders.ensures.searches)

pub returns-clause-searches : goal.returns-clause-searches
returns-clause-searches c =
    let s : State = state_of c.args.search.now.schema.now c.args.candidates.now.members in
    let indices : List ℕ = c.in-Some.first ∷ c.in-Some-next.second ∷ c.next-2.new.self.items in
    let count = kept_count (key_of c.args.search.now.key) s c.args.entry.now c.requires.entry indices
    (ap (λ rest. c.in-Some.first ∷ rest) (sym c.in-Some-next.ensures.next) ∙ sym c.in-Some.ensures.next ∙ c.common-holders.ensures.members) in
    omega (arith, count, c.in_ok-fields.ensures.searches, c.in-Some-next.ensures.searches, c.in-Some.ensures.searches, c.common-holders.ensures.searches)

pub returns-in_err-fields-clause-agreed : goal.returns-in_err-fields-clause-agreed
returns-in_err-fields-clause-agreed c = λ shape same.
    let search = c.args.search.now in
    absurd (knows_shape (key_of search.key) search.schema.now.resolutions c.args.entry.now shape c.requires.entry same c.in_default-shape.is)

pub returns-clause-agreed : goal.returns-clause-agreed
returns-clause-agreed c = λ shape same.
    let search = c.args.search.now in
    absurd (knows_shape (key_of search.key) search.schema.now.resolutions c.args.entry.now shape c.requires.entry same c.in_default-shape.is)
