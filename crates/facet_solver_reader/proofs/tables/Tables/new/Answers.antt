use Rattle.std.proofs.Common.{◌≡◌, ℕ, List, Bool, subst, inl, inr, ◌<◌, length, Some, slice_get, false}
use Rattle.facet_solver_shape.specs.Catalogues.{Catalogue}
use Rattle.facet_solver_reader.specs.EveryList.{AreEveryList}
use Rattle.facet_solver_reader.specs.OrderedLists.{AreOrdered, IsAbout, IsMarked, IsMarkedList, IsWhyUnordered}
use Rattle.facet_solver_reader.specs.Ranked.{AreRanked, AsksWithoutEnd}
use Rattle.facet_solver_reader.specs.WorkList.{AreReached, HasEnd}
use Rattle.facet_solver_reader.proofs.AllTables.{fault_met, none_found, reached_sound, root_made, shape_met, tables_made, unordered_refused}
use Rattle.facet_solver_reader.proofs.tables.Tables.new.Goals as goal

pub new-requires-4 : goal.new-requires-4
new-requires-4 c = reached_sound c.in_ok-types.types c.in_ok-every.every c.args.root c.in_ok-reached.reached c.in_ok-reached.ensures

pub returns-in-Some-clause-refused : goal.returns-in-Some-clause-refused
returns-in-Some-clause-refused c =
    let every = c.in_ok-every.every in
    let reached = c.in_ok-reached.reached in
    let id = c.in-Some.id in (
      inl c.in-Some.ensures.circles,
      shape_met c.args.shapes.now every c.args.root reached (subst (λ (s : Catalogue). AreReached s every c.args.root reached) c.in_ok-types.ensures c.in_ok-reached.ensures) id c.in-Some.ensures.reached,
    )

pub returns-in-Some-first_unranked-clause-refused : goal.returns-in-Some-first_unranked-clause-refused
returns-in-Some-first_unranked-clause-refused c =
    let every = c.in_ok-every.every in
    let reached = c.in_ok-reached.reached in
    let id = c.in-Some-first_unranked.id in
    let found = c.in-Some-first_unranked.ensures in
    let endless = c.in_ok-ranks.ensures.unranked id found.0 found.1 in (
      inr (subst (λ (s : Catalogue). AsksWithoutEnd s id) c.in_ok-types.ensures endless),
      shape_met c.args.shapes.now every c.args.root reached (subst (λ (s : Catalogue). AreReached s every c.args.root reached) c.in_ok-types.ensures c.in_ok-reached.ensures) id found.0,
    )

pub returns-in-Ok-clause-made : goal.returns-in-Ok-clause-made
returns-in-Ok-clause-made c =
    let every = c.in_ok-every.every in
    let reached = c.in_ok-reached.reached in
    let ranks = c.in_ok-ranks.ranks in
    tables_made _ every c.args.root reached.marks ranks.is_ranked
    (subst (λ (s : Catalogue). AreEveryList s every) c.in_ok-types.ensures c.in_ok-every.ensures)
    (subst (λ (s : Catalogue). AreReached s every c.args.root reached) c.in_ok-types.ensures c.in_ok-reached.ensures)
    (subst (λ (s : Catalogue). AreOrdered s every reached.marks.lists.items c.in-Ok.field-0) c.in_ok-types.ensures
    (subst (λ (ms : List Bool). AreOrdered c.in_ok-types.types every ms c.in-Ok.field-0) c.deref.ensures.value c.in-Ok.ensures.ok))
    (subst (λ (s : Catalogue). AreRanked s reached.ends.items ranks) c.in_ok-types.ensures c.in_ok-ranks.ensures)
    (none_found c.first_unranked.result ((id : ℕ) → HasEnd reached.ends.items id → IsMarked ranks.is_ranked.items id) (λ (id : ℕ). HasEnd reached.ends.items id × (slice_get ranks.is_ranked.items id ≡ Some false))
    c.in_default-first_unranked.not-Some c.first_unranked.ensures)
    c.in_ok-tags.ensures

pub returns-in-Ok-clause-root : goal.returns-in-Ok-clause-root
returns-in-Ok-clause-root c =
    let every = c.in_ok-every.every in
    let reached = c.in_ok-reached.reached in
    let ranks = c.in_ok-ranks.ranks in
    root_made (record { alloc = c.args.alloc; shapes = c.args.shapes; strict = c.args.strict; ends = c.in_ok-reached.reached.ends; lists = c.in-Ok.field-0.lists; slots = c.in-Ok.field-0.slots; tags = c.in_ok-tags.tags; steps = c.in_ok-ranks.ranks.steps }) every c.args.root reached.marks ranks.is_ranked
    (subst (λ (s : Catalogue). AreEveryList s every) c.in_ok-types.ensures c.in_ok-every.ensures)
    (subst (λ (s : Catalogue). AreReached s every c.args.root reached) c.in_ok-types.ensures c.in_ok-reached.ensures)
    (subst (λ (s : Catalogue). AreOrdered s every reached.marks.lists.items c.in-Ok.field-0) c.in_ok-types.ensures
    (subst (λ (ms : List Bool). AreOrdered c.in_ok-types.types every ms c.in-Ok.field-0) c.deref.ensures.value c.in-Ok.ensures.ok))
    (subst (λ (s : Catalogue). AreRanked s reached.ends.items ranks) c.in_ok-types.ensures c.in_ok-ranks.ensures)
    (none_found c.first_unranked.result ((id : ℕ) → HasEnd reached.ends.items id → IsMarked ranks.is_ranked.items id) (λ (id : ℕ). HasEnd reached.ends.items id × (slice_get ranks.is_ranked.items id ≡ Some false))
    c.in_default-first_unranked.not-Some c.first_unranked.ensures)
    c.in_ok-tags.ensures
    (let within : c.args.root < length c.args.shapes.now = c.has.ensures.value.0 c.if-not-has.false in within)

pub returns-clause-refused : goal.returns-clause-refused
returns-clause-refused c =
    let every = c.in_ok-every.every in
    let reached = c.in_ok-reached.reached in
    let fault = c.in-Err.fault in
    unordered_refused c.args.shapes.now c.args.root fault
    (subst (λ (s : Catalogue). IsWhyUnordered s fault) c.in_ok-types.ensures c.in-Err.ensures.err)
    (fault_met c.args.shapes.now every c.args.root reached
    (subst (λ (s : Catalogue). AreReached s every c.args.root reached) c.in_ok-types.ensures c.in_ok-reached.ensures) fault
    (subst (λ (ms : List Bool). IsAbout (IsMarkedList every ms) fault) c.deref.ensures.value c.in-Err.ensures.about))
