-- What a probing solver keeps, and what it answers. Its view is the list of its candidates.
use Rattle.std.specs.Prelude.{List, [], ◌∷◌, filter, map}
use denote.Bor.{Bor}
use Rattle.facet_solver_shape.specs.Names.{Name}
use Rattle.facet_solver_shape.specs.Resolved.{Resolved}
use Rattle.facet_solver.specs.declared.probing.ProbeResult.{ProbeResult}
use Rattle.facet_solver.specs.declared.probing.ProbeResult.TheVariants.{KeepGoing, Solved, NoMatch}
use Rattle.facet_solver.specs.KeyPath.{has_key_at}

-- what resolutions behind references say
abbrev pub resolutions_of : List (Bor Resolved) → List Resolved
resolutions_of rs = map (λ r. r.now) rs

-- several candidates are left; one, and which; or none
pub data ProbeResultView : Type 0 where
  keep_going : ProbeResultView
  solved : Resolved → ProbeResultView
  no_match : ProbeResultView

-- what an answer says
abbrev pub probe_result_view : ProbeResult → ProbeResultView
probe_result_view KeepGoing = keep_going
probe_result_view (Solved resolution) = solved resolution.now
probe_result_view NoMatch = no_match

-- the answer, by how many candidates are left
abbrev pub probe_result : List Resolved → ProbeResultView
probe_result [] = no_match
probe_result (r ∷ []) = solved r
probe_result (r ∷ s ∷ rest) = keep_going

-- only the candidates stay that have the key at the path, in their order
abbrev pub probe_key : List Name → Name → List Resolved → List Resolved
probe_key path key candidates = filter (has_key_at path key) candidates
