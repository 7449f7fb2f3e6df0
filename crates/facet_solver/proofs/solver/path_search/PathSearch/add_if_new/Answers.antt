use Rattle.std.proofs.Common.{Bool, Option, List, filter, map, ap, sym, ◌∙◌, ◌++◌, ◌∷◌, [], ℕ}
use Rattle.std.proofs.lemmas.List.{map-append}
use Rattle.facet_solver_shape.specs.Fields.{FieldView}
use Rattle.facet_solver_shape.specs.Names.{Name, names_of}
use Rattle.facet_solver.specs.solver.KeyResult.{scored_view}
use Rattle.facet_solver.specs.KeyPath.{has_key_path}
use Rattle.facet_solver.specs.solver.Probe.{field_on_path_at, fields_on_path, scored}
use Rattle.facet_solver.specs.schema.Schema.{SchemaView}
use Rattle.facet_solver.specs.Resolutions.{passes}
use Rattle.facet_solver.proofs.Probe.{firsts_new, firsts_old, firsts_failed, told_of}
use Rattle.facet_solver.proofs.solver.path_search.PathSearch.add_if_new.Goals as goal
use Rattle.facet_solver.proofs.solver.path_search.PathSearch.add_if_new.Goals.{else-not-is_among-via-then-not-is_among+else-holds, else-not-is_among-via-else-not-is_among}

-- what the resolution at an index has on the path
abbrev at : List Name → SchemaView → ℕ → Option (FieldView × ℕ)
at whole schema = field_on_path_at schema.build.catalogue whole schema.resolutions

-- whether it has the whole path
abbrev pass : List Name → SchemaView → ℕ → Bool
pass whole schema = passes (has_key_path whole) schema.resolutions

abbrev shapes : List (FieldView × ℕ) → List ℕ
shapes found = map (λ e. e.1) found

pub returns-in_ok-push-2-clause-shapes : goal.returns-in_ok-push-2-clause-shapes
returns-in_ok-push-2-clause-shapes c = λ seen so_far.
    let whole = names_of c.args.self.now.path.now.items in
    let schema = c.args.self.now.schema.now in
    let e : FieldView × ℕ = (c.args.found.0.now, c.args.found.1) in
    let firsts = fields_on_path whole schema (filter (pass whole schema) seen) in
    let is_new = told_of firsts c.args.found.1 so_far c.deref.ensures.value c.is_among.ensures c.if-not-is_among.true in
    c.in_ok-push.ensures.items
    ∙ ap (λ xs. xs ++ c.args.found.1 ∷ []) so_far
    ∙ sym (map-append (λ (d : FieldView × ℕ). d.1) firsts (e ∷ []))
    ∙ ap shapes (firsts_new (at whole schema) (pass whole schema) seen c.args.index e c.requires is_new (sym c.holds.ensures ∙ c.if-holds.true))

pub returns-in_ok-push-2-clause-fields : goal.returns-in_ok-push-2-clause-fields
returns-in_ok-push-2-clause-fields c = λ seen so_far shown.
    let whole = names_of c.args.self.now.path.now.items in
    let schema = c.args.self.now.schema.now in
    let cat = schema.build.catalogue in
    let f = c.args.found.0.now in
    let e : FieldView × ℕ = (f, c.args.found.1) in
    let firsts = fields_on_path whole schema (filter (pass whole schema) seen) in
    let is_new = told_of firsts c.args.found.1 so_far c.deref.ensures.value c.is_among.ensures c.if-not-is_among.true in
    ap (map scored_view) c.in_ok-push-2.ensures.items
    ∙ map-append scored_view c.args.fields.now.items ((c.args.found.0, c.score_at.result) ∷ [])
    ∙ ap (λ xs. xs ++ (f, c.score_at.result) ∷ []) shown
    ∙ ap (λ n. map (scored cat) firsts ++ (f, n) ∷ []) c.score_at.ensures
    ∙ sym (map-append (scored cat) firsts (e ∷ []))
    ∙ ap (map (scored cat)) (firsts_new (at whole schema) (pass whole schema) seen c.args.index e c.requires is_new (sym c.holds.ensures ∙ c.if-holds.true))

pub returns-else-not-is_among-clause-shapes : goal.returns-else-not-is_among-clause-shapes
returns-else-not-is_among-clause-shapes c = λ seen so_far.
    let whole = names_of c.args.self.now.path.now.items in
    let schema = c.args.self.now.schema.now in
    let e : FieldView × ℕ = (c.args.found.0.now, c.args.found.1) in
    let firsts = fields_on_path whole schema (filter (pass whole schema) seen) in
    elim c.else-not-is_among.branch [
      | else-not-is_among-via-then-not-is_among+else-holds w ↦
          so_far ∙ ap shapes (firsts_failed (at whole schema) (pass whole schema) seen c.args.index (sym w.holds.ensures ∙ w.if-holds.false))
      | else-not-is_among-via-else-not-is_among w ↦
          so_far
          ∙ ap shapes (firsts_old (at whole schema) (pass whole schema) seen c.args.index e c.requires
          (told_of firsts c.args.found.1 so_far c.deref.ensures.value c.is_among.ensures w.if-not-is_among.false))
    ]

pub returns-else-not-is_among-clause-fields : goal.returns-else-not-is_among-clause-fields
returns-else-not-is_among-clause-fields c = λ seen so_far shown.
    let whole = names_of c.args.self.now.path.now.items in
    let schema = c.args.self.now.schema.now in
    let cat = schema.build.catalogue in
    let e : FieldView × ℕ = (c.args.found.0.now, c.args.found.1) in
    let firsts = fields_on_path whole schema (filter (pass whole schema) seen) in
    elim c.else-not-is_among.branch [
      | else-not-is_among-via-then-not-is_among+else-holds w ↦
          shown ∙ ap (map (scored cat)) (firsts_failed (at whole schema) (pass whole schema) seen c.args.index (sym w.holds.ensures ∙ w.if-holds.false))
      | else-not-is_among-via-else-not-is_among w ↦
          shown
          ∙ ap (map (scored cat)) (firsts_old (at whole schema) (pass whole schema) seen c.args.index e c.requires
          (told_of firsts c.args.found.1 so_far c.deref.ensures.value c.is_among.ensures w.if-not-is_among.false))
    ]
