use Rattle.std.proofs.Common.{◌≡◌, ◌∷◌, [], ◌∙◌, ap, sym}
use Rattle.facet_solver.specs.build.Nested.{KeyPaths, nested_paths, structs_alone, under_shape, with_paths_behind}
use Rattle.facet_solver.specs.build.NestedTable.{paths_by_name}
use Rattle.facet_solver.proofs.NestedSets.{behind-none}
use Rattle.facet_solver.proofs.NestedTable.{on_ok}
use Rattle.facet_solver.proofs.Serving.{entries_stand, regular_entry, regular_nothing, under_filled}
use Rattle.facet_solver.proofs.build.nested.tables.NestedTables.add_paths_behind_field.Goals as goal

pub returns-then-not-has : goal.returns-then-not-has
returns-then-not-has c =
    let cat = c.args.build.shapes.now in
    let r = c.args.resolution.now in
    let name = c.args.name.now in
    let none = regular_nothing cat c.args.shape (sym c.has.ensures ∙ c.if-not-has.true) in
    record {
      ok = sym (ap (λ (ps : KeyPaths). with_paths_behind r (name ∷ []) ps) none ∙ behind-none r (name ∷ []));
    }

pub add_behind-requires-clause-filled : goal.add_behind-requires-clause-filled
add_behind-requires-clause-filled c =
    under_filled c.args.self.now.structs.by_index.items c.args.shape c.under-under.result.now c.requires.entries.structs_earlier c.under-under.ensures

pub returns : goal.returns
returns c =
    let cat = c.args.build.shapes.now in
    let id = c.args.shape in
    let entries = c.args.self.now.structs.by_index.items in
    let is : paths_by_name (under_shape structs_alone cat) c.under-under.result.now ≡ nested_paths cat id =
    regular_entry cat entries id c.under-under.result.now c.requires.checked c.requires.entries.structs c.under-under.ensures (sym c.has.ensures ∙ c.if-not-has.false) in
    record {
      ok = rw (← is)
          (on_ok c.add_behind.result (λ added. added (under_shape structs_alone cat) (entries_stand structs_alone cat entries c.requires.checked c.requires.entries.structs)) c.add_behind.ensures);
    }
