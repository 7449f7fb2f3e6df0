use Rattle.std.proofs.Common.{map, refl}
use Rattle.std.proofs.lemmas.List.Elements.{All-push}
use Rattle.facet_solver_shape.specs.Keys.{key_of}
use Rattle.facet_solver.specs.solver.SeenEntries.{HasEntry}
use Rattle.facet_solver.specs.declared.solver.report.seen_entries.SeenEntry.{SeenEntry}
use Rattle.facet_solver.proofs.Left.{left_one, map_pushed}
use Rattle.facet_solver.proofs.solver.report.seen_entries.seen_entries.Goals as goal

pub loop-key-preserved : goal.loop-key-preserved
loop-key-preserved c =
    let rs = c.args.schema.now.resolutions in
    let key = c.in-Some.key.now in
    let entries = c.loop-key.entries.items in
    let entry : SeenEntry = record { key = key; entry = c.look_up.result } in
    record {
      keys = left_one (map key_of) (map (λ (e : SeenEntry). key_of e.key) entries) c.loop-key.key-iterator c.next.new.self key _ c.loop-key.invariant.keys c.in-Some.ensures.steps
          _ (key_of key) (map_pushed (λ (e : SeenEntry). key_of e.key) entries c.push.new.self.items entry (key_of key) c.in_ok-push.ensures.items refl) refl;
      each = rw c.in_ok-push.ensures.items (All-push (HasEntry rs) entries entry c.loop-key.invariant.each c.look_up.ensures);
    }
