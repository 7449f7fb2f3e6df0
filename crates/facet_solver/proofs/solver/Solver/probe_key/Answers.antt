use Rattle.std.proofs.Common.{◌≡◌, ℕ, Bool, List, [], ◌∷◌, filter, false, true, map, refl, ap, sym, ◌∙◌}
use Rattle.std.specs.List.{list_any}
use Rattle.facet_solver_shape.specs.Keys.{key_of}
use Rattle.facet_solver_shape.specs.Names.{Name, names_of}
use Rattle.facet_solver_shape.specs.Resolved.{Resolved}
use Rattle.facet_solver.specs.KeyPath.{has_key_at, has_key_path, whole_path}
use Rattle.facet_solver.specs.Resolutions.{passes}
use Rattle.facet_solver.specs.set.IndexSet.{IndexSet, how_many, several_indices}
use Rattle.facet_solver.specs.solver.KeyResult.{KeyResultView, solved, solved_or}
use Rattle.facet_solver.specs.solver.Probe as probe
use Rattle.facet_solver.specs.solver.Probe.{by_shapes, fields_on_path, key_path_result}
use Rattle.facet_solver.specs.solver.State.{State}
use Rattle.facet_solver.proofs.FirstPassing.{none_left, only_left, several_left}
use Rattle.facet_solver.proofs.solver.Solver.probe_key.Goals as goal

-- the candidates that have a whole path
abbrev left : List Name → State → List ℕ
left whole s = filter (passes (has_key_path whole) s.schema.resolutions) s.candidates

-- the answer by the shapes there
abbrev shaped : List Name → State → KeyResultView
shaped whole s = by_shapes s.schema.build.catalogue (fields_on_path whole s.schema (left whole s))

-- the first candidate that has the path has it alone
one_has : {known whole : List Name} {read members : List ℕ} {told : Bool} (rs : List Resolved) (first : ℕ) (rest : List ℕ) → read ≡ members → filter (passes (has_key_path whole) rs) read ≡ first ∷ filter (passes (has_key_path whole) rs) rest → known ≡ whole → told ≡ list_any (passes (has_key_path known) rs) rest → told ≡ false
    → filter (passes (has_key_path whole) rs) members ≡ first ∷ []
one_has {known} {whole} {read} {members} rs first rest same found is told none =
    let test = passes (has_key_path whole) rs in
    let no_other : list_any test rest ≡ false =
    ap (λ path. list_any (passes (has_key_path path) rs) rest) (sym is) ∙ sym told ∙ none in
    sym (ap (filter test) same) ∙ found ∙ ap (λ xs. first ∷ xs) (none_left test rest no_other)

-- or with another
several_have : {known whole : List Name} {read members : List ℕ} {told : Bool} (rs : List Resolved) (first : ℕ) (rest : List ℕ) → read ≡ members → filter (passes (has_key_path whole) rs) read ≡ first ∷ filter (passes (has_key_path whole) rs) rest → known ≡ whole → told ≡ list_any (passes (has_key_path known) rs) rest → told ≡ true
    → several_indices ≡ how_many (filter (passes (has_key_path whole) rs) members)
several_have {known} {whole} {read} {members} rs first rest same found is told some =
    let test = passes (has_key_path whole) rs in
    let another : list_any test rest ≡ true =
    ap (λ path. list_any (passes (has_key_path path) rs) rest) (sym is) ∙ sym told ∙ some in
    several_left test first rest another ∙ ap how_many (sym found ∙ ap (filter test) same)

none_kept : (xs : List ℕ) → filter (λ _. false) xs ≡ []
none_kept [] = refl
none_kept (x ∷ xs) = none_kept xs

pub returns-in_default-clause-ok : goal.returns-in_default-clause-ok
returns-in_default-clause-ok c =
    let s = c.self.inside in
    let before : State = record { schema = s.schema.now; candidates = s.candidates.members; seen = map key_of s.seen.keys } in
    let test = passes (has_key_at (names_of c.args.path.now) c.args.key.now) s.schema.now.resolutions in
    let none = ap (λ (set : IndexSet). set.members) c.retain.ensures
    ∙ none_kept s.candidates.members
    ∙ sym c.in_default.ensures.none
    ∙ ap (filter test) c.iter-indices.ensures.members in
    (λ i. record before { candidates = none i }) ∙ ap (probe.probe_key (names_of c.args.path.now) c.args.key.now) c.self.view_is

pub returns-then-not-is_at_any-clause-answer : goal.returns-then-not-is_at_any-clause-answer
returns-then-not-is_at_any-clause-answer c =
    let s = c.self.inside in
    let before : State = record { schema = s.schema.now; candidates = s.candidates.members; seen = map key_of s.seen.keys } in
    let whole = whole_path (names_of c.args.path.now) c.args.key.now in
    let one = one_has s.schema.now.resolutions c.in-Some.first _ c.iter-indices.ensures.members c.in-Some.ensures.first c.in-Some.ensures.whole c.is_at_any.ensures c.if-not-is_at_any.true in
    ap solved c.new.ensures.index
    ∙ ap (λ indices. solved_or (shaped whole before) (how_many indices)) (sym one)
    ∙ ap (key_path_result (names_of c.args.path.now) c.args.key.now) c.self.view_is

pub returns-then-not-is_at_any-clause-ok : goal.returns-then-not-is_at_any-clause-ok
returns-then-not-is_at_any-clause-ok c =
    let s = c.self.inside in
    let before : State = record { schema = s.schema.now; candidates = s.candidates.members; seen = map key_of s.seen.keys } in
    let test = passes (has_key_at (names_of c.args.path.now) c.args.key.now) s.schema.now.resolutions in
    let one = one_has s.schema.now.resolutions c.in-Some.first _ c.iter-indices.ensures.members c.in-Some.ensures.first c.in-Some.ensures.whole c.is_at_any.ensures c.if-not-is_at_any.true in
    let kept = ap (λ (set : IndexSet). set.members) c.retain-then-not-is_at_any.ensures ∙ only_left test c.in-Some.first s.candidates.members one in
    (λ i. record before { candidates = kept i }) ∙ ap (probe.probe_key (names_of c.args.path.now) c.args.key.now) c.self.view_is

pub returns-clause-answer : goal.returns-clause-answer
returns-clause-answer c =
    let s = c.self.inside in
    let before : State = record { schema = s.schema.now; candidates = s.candidates.members; seen = map key_of s.seen.keys } in
    let whole = whole_path (names_of c.args.path.now) c.args.key.now in
    let several = several_have s.schema.now.resolutions c.in-Some.first _ c.iter-indices.ensures.members c.in-Some.ensures.first c.in-Some.ensures.whole c.is_at_any.ensures c.if-not-is_at_any.false in
    c.in_ok-answer.ensures.answer
    ∙ ap (λ path. shaped path before) c.in-Some.ensures.whole
    ∙ ap (solved_or (shaped whole before)) several
    ∙ ap (key_path_result (names_of c.args.path.now) c.args.key.now) c.self.view_is

pub returns-clause-ok : goal.returns-clause-ok
returns-clause-ok c =
    let s = c.self.inside in
    let before : State = record { schema = s.schema.now; candidates = s.candidates.members; seen = map key_of s.seen.keys } in
    let kept = ap (λ (set : IndexSet). set.members) c.retain-2.ensures ∙ ap (λ whole. left whole before) c.in-Some.ensures.whole in
    (λ i. record before { candidates = kept i }) ∙ ap (probe.probe_key (names_of c.args.path.now) c.args.key.now) c.self.view_is
