use Rattle.std.proofs.Common.{◌≡◌, Bor, List, [], ◌∷◌, ap, cond, length, sym, ◌∙◌}
use Rattle.std.specs.Prelude.{true, false, ◌==◌, slice_get, ◌-◌}
use Rattle.std.proofs.lemmas.Bool.{false≢true}
use Rattle.std.proofs.lemmas.List.{map-append}
use Rattle.std.proofs.lemmas.Option.{same_Some}
use Rattle.facet_solver.specs.KeyPath.{whole_path}
use Rattle.facet_solver.specs.Names.{Name, names_of}
use Rattle.facet_solver.specs.solver.State.{State}
use Rattle.facet_solver.specs.solver.Probe.{probe_key}
use Rattle.facet_solver_uses.specs.stream.Candidates.{is_probed}
use Rattle.facet_solver_uses.specs.stream.Place.{without_last}
use Rattle.facet_solver_uses.specs.stream.Tell.{tell_key}
use Rattle.facet_solver_uses.proofs.Documents.{last_gone, last_is}
use Rattle.facet_solver_uses.proofs.stream.tell.Teller.key.Goals as goal
use Rattle.facet_solver_uses.proofs.stream.tell.Teller.key.Goals.{in-Ambiguous-2, in-Unambiguous-2}

-- a whole path has one part above its last name
same_above : (above path : List Name) (last key : Name) → whole_path above last ≡ whole_path path key → above ≡ path
same_above above path last key same = sym (last_gone above last) ∙ ap without_last same ∙ last_gone path key

same_last : (above path : List Name) (last key : Name) → whole_path above last ≡ whole_path path key → last ≡ key
same_last above path last key same =
    same_Some last key
    (sym (last_is above last) ∙ ap (λ (ns : List Name). slice_get ns (length ns - 1)) same ∙ last_is path key)

-- a key below some names that is probed
probed : (above : List (Bor Name)) (key : Name) (s : State) → false ≡ (length above == 0) → is_probed (whole_path (names_of above) key) s ≡ true → probe_key (names_of above) key s ≡ tell_key (names_of above) key s
probed [] key s some is = absurd (false≢true some)
probed (first ∷ rest) key s some is = sym (ap (λ b. cond b (probe_key (names_of (first ∷ rest)) key s) s) is)

pub returns-in_ok-probe_key-clause-ok : goal.returns-in_ok-probe_key-clause-ok
returns-in_ok-probe_key-clause-ok c = λ path key is.
    let above = c.in-Some.path.now in
    let last = c.in-Some.key.now.now in
    let s = c.self.inside.solver in
    let whole : names_of c.args.whole.now ≡ whole_path (names_of above) last =
    ap names_of c.in-Some.ensures.cases.0 ∙ map-append (λ (n : Bor Name). n.now) above (c.in-Some.key.now ∷ []) in
    let same : whole_path (names_of above) last ≡ whole_path path key = sym whole ∙ is in
    let told : c.probe_key.new.self ≡ tell_key path key c.args.self.now =
    c.in_ok-probe_key.ensures.ok
    ∙ probed above last s c.if-is_empty.ensures (sym (c.is_probed.ensures ∙ ap (λ (ns : List Name). is_probed ns s) whole) ∙ c.if-is_probed.true)
    ∙ ap (λ (ns : List Name). tell_key ns last s) (same_above (names_of above) path last key same)
    ∙ ap (λ (n : Name). tell_key path n s) (same_last (names_of above) path last key same)
    ∙ ap (tell_key path key) c.self.view_is in
    elim c.match-branch-4.branch [ in-Ambiguous-2 w ↦ w.self-is ∙ told | in-Unambiguous-2 w ↦ w.self-is ∙ told ]
