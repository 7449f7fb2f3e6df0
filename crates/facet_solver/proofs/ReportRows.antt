-- Which resolutions are viable, and what is reported and found: the definitions, row by row.
use Rattle.std.proofs.Common.{◌≡◌, ℕ, true, false, List, [], ◌∷◌, None, Ok, Err, length, slice_get, slice_index, refl, sym, ap, ◌∙◌, arith, codes}
use Rattle.std.specs.List.{list_all}
use Rattle.facet_solver_shape.specs.Keys.{Key, flat_key}
use Rattle.facet_solver_shape.specs.Names.{Name}
use Rattle.facet_solver.specs.declared.error.SolverError.TheVariants.{Ambiguous, OutOfMemory}
use Rattle.facet_solver.specs.declared.schema.handle.ResolutionHandle.{ResolutionHandle}
use Rattle.facet_solver.specs.set.IndexSet.{how_many}
use Rattle.facet_solver.specs.solver.Failure.{is_met}
use Rattle.facet_solver.specs.solver.Found.{GivesOrNames, StandsAtPlace}
use Rattle.facet_solver.specs.solver.Report.{IsReportOn, descriptions, is_viable, report_by, report_of, resolutions_at, viable}
use Rattle.facet_solver.specs.solver.State.{State, mark_seen, new_solver}
use Rattle.facet_solver.specs.solver.Told.{EndsWithOrNames}
use Rattle.facet_solver.proofs.SampleResolutions.{both_fields, entry, only_a, only_b, passing_two, two, values_of}

-- the key of `a`
abbrev key_a : Key
key_a = flat_key (codes "a")

-- a resolution is viable where each required field has a seen key that means it
pub viable_rows :
    (is_viable (key_a ∷ []) only_a ≡ true)
    × (is_viable (key_a ∷ []) only_b ≡ false)
    × (is_viable (key_a ∷ []) both_fields ≡ false)
    × (is_viable (key_a ∷ flat_key (codes "b") ∷ []) both_fields ≡ true)
    × (is_viable [] only_a ≡ false)
viable_rows = (
  ap (list_all (is_met (key_a ∷ []))) (values_of _ tt),
  ap (list_all (is_met (key_a ∷ []))) (values_of _ tt),
  ap (list_all (is_met (key_a ∷ []))) (values_of _ tt),
  ap (list_all (is_met (key_a ∷ flat_key (codes "b") ∷ []))) (values_of _ tt),
  ap (list_all (is_met [])) (values_of _ tt),
)

-- a solver that saw `a` of a resolution with `a` and one with `b`
abbrev told : State
told = mark_seen key_a (new_solver (two only_a only_b))

-- the first alone is viable
told_viable : viable told ≡ 0 ∷ []
told_viable = passing_two (is_viable (key_a ∷ [])) only_a only_b viable_rows.0 viable_rows.1

-- a solver that saw nothing of them has no viable one
abbrev untold : State
untold = new_solver (two only_a only_b)

untold_viable : viable untold ≡ []
untold_viable =
    passing_two (is_viable []) only_a only_b viable_rows.4 (ap (list_all (is_met [])) (values_of (entry (codes "b") ∷ []) tt))

-- a report at which one alone is viable is none, and out of memory may come at any time
pub report_rows :
    (report_of told ≡ None)
    × IsReportOn told OutOfMemory
    × ((candidates : _) (fields : _) → ¬ (IsReportOn told (Ambiguous candidates fields)))
    × ((candidates : _) (fields : _) → ¬ (IsReportOn untold (Ambiguous candidates fields)))
report_rows = (
  no_report,
  tt,
  λ candidates fields is. let none = is ∙ no_report in cc,
  λ candidates fields is. let other = is ∙ ap (λ left. report_by (how_many left) untold) untold_viable in cc,
)
  where
    no_report : report_of told ≡ None
    no_report = ap (λ left. report_by (how_many left) told) told_viable

-- the text of a resolution without selections
abbrev no_variants : Name
no_variants = codes "(no variants)"

-- the first is the only one and found at its place
pub found_holds :
    EndsWithOrNames told 0 no_variants × StandsAtPlace told 0 no_variants (no_variants ∷ [])
found_holds = (
  record {
    alone = λ one. told_viable;
    place = 0;
    at_place = ap (λ left. slice_get left 0) told_viable;
    described = ap (λ left. slice_get (descriptions (resolutions_at (only_a ∷ only_b ∷ []) left)) 0) told_viable;
  },
  record { place = 0; at_place = ap (λ left. slice_get left 0) told_viable; described = refl },
)

-- the second is not viable; and nothing is where none is
pub found_fails :
    ((text : Name) → ¬ (EndsWithOrNames told 1 text))
    × ((index : ℕ) (text : Name) (texts : List Name) → ¬ (StandsAtPlace untold index text texts))
found_fails = (
  λ text e.
      let alone = e.alone (ap length told_viable) in
      let other = ap (λ left. slice_index left 0) (sym alone ∙ told_viable) in
      omega (arith, other),
  λ index text texts s. let none = ap (λ left. slice_get left s.place) (sym untold_viable) ∙ s.at_place in cc,
)

-- an answer that is the index, or out of memory where not one alone is viable
pub gives_rows :
    GivesOrNames untold 0 no_variants (Err OutOfMemory)
    × (¬ (GivesOrNames told 0 no_variants (Err OutOfMemory)))
    × ((handle : ResolutionHandle) → handle.index ≡ 0 → GivesOrNames told 0 no_variants (Ok handle))
    × ((handle : ResolutionHandle) → handle.index ≡ 1 → ¬ (GivesOrNames told 0 no_variants (Ok handle)))
gives_rows = (
  λ one. let none = sym (ap length untold_viable) ∙ one in omega (arith, none),
  λ other. other (ap length told_viable),
  λ handle is. is,
  λ handle is other. omega (arith, is, other),
)
