use Rattle.std.proofs.Common.{◌≡◌, ◌<◌, ℕ, [], true, false, All, None, Some, ap, filter, length, map, refl, subst, sym, ◌∙◌}
use Rattle.std.specs.Prelude.{◌≢◌, ◌↔◌, IsTrue}
use Rattle.std.specs.BTreeSet.{insert_key}
use Rattle.facet_solver_shape.specs.Keys.{Key, flat_key, key_cmp, key_of}
use Rattle.facet_solver.specs.Resolutions.{field_at}
use Rattle.facet_solver.specs.schema.Indexed.{IsIndexEntry}
use Rattle.facet_solver.specs.set.IndexSet.{IndexSet, has_index}
use Rattle.facet_solver.specs.solver.State.{State, or_all, passing, see_key}
use Rattle.facet_solver.specs.solver.Tag.{has_variant_under, see_tag}
use Rattle.facet_solver.proofs.State.{seen_with}
use Rattle.facet_solver.proofs.Selected.{answered, named_left, none_left, none_passes, told, unnamed_left}
use Rattle.facet_solver.proofs.solver.Solver.see_tag.Goals as goal

pub returns-in_default-clause-named : goal.returns-in_default-clause-named
returns-in_default-clause-named c =
    let s = c.self.inside in
    let tag = c.args.tag.now in
    let variant = c.args.variant.now in
    let before : State = record { schema = s.schema.now; candidates = s.candidates.members; seen = map key_of s.seen.keys } in
    let Missing : Key → Type 0 = λ key. (i : ℕ) → field_at key s.schema.now.resolutions i ≡ None in
    let none = subst Missing c.flat-key.ensures c.in_default.ensures in
    subst (λ (v : State). IsTrue false ↔ (passing (has_variant_under tag variant) (see_key (flat_key tag) v) ≢ [])) c.self.view_is
    (answered tag variant before false (sym (none_passes tag variant before none)))

pub returns-in_default-clause-ok : goal.returns-in_default-clause-ok
returns-in_default-clause-ok c =
    let s = c.self.inside in
    let tag = c.args.tag.now in
    let variant = c.args.variant.now in
    let before : State = record { schema = s.schema.now; candidates = s.candidates.members; seen = map key_of s.seen.keys } in
    let Missing : Key → Type 0 = λ key. (i : ℕ) → field_at key s.schema.now.resolutions i ≡ None in
    let none = subst Missing c.flat-key.ensures c.in_default.ensures in
    let keys = ap (map key_of) c.in_ok-insert.ensures.keys ∙ seen_with s.seen.keys c.flat-key.result ∙ ap (insert_key key_cmp (map key_of s.seen.keys)) c.flat-key.ensures in
    none_left tag variant before none (map key_of c.insert.new.self.keys) keys ∙ ap (see_tag tag variant) c.self.view_is

pub returns-then-keep_variant-clause-named : goal.returns-then-keep_variant-clause-named
returns-then-keep_variant-clause-named c =
    let s = c.self.inside in
    let tag = c.args.tag.now in
    let variant = c.args.variant.now in
    let rs = s.schema.now.resolutions in
    let entry = c.in-Some.entry.now in
    let before : State = record { schema = s.schema.now; candidates = s.candidates.members; seen = map key_of s.seen.keys } in
    let is = subst (λ key. IsIndexEntry (length rs) (field_at key rs) entry) c.flat-key.ensures c.in-Some.ensures in
    let within : All (λ i. i < length rs) s.candidates.members = subst (λ b. All (λ i. i < b) s.candidates.members) c.self.invariant (c.keep_variant.ensures.within c.if-keep_variant.true) in
    let named = sym c.if-keep_variant.true ∙ c.keep_variant.ensures.named in
    subst (λ (v : State). IsTrue true ↔ (passing (has_variant_under tag variant) (see_key (flat_key tag) v) ≢ [])) c.self.view_is
    (answered tag variant before true (told tag variant before entry is within true named))

pub returns-then-keep_variant-clause-ok : goal.returns-then-keep_variant-clause-ok
returns-then-keep_variant-clause-ok c =
    let s = c.self.inside in
    let tag = c.args.tag.now in
    let variant = c.args.variant.now in
    let rs = s.schema.now.resolutions in
    let entry = c.in-Some.entry.now in
    let before : State = record { schema = s.schema.now; candidates = s.candidates.members; seen = map key_of s.seen.keys } in
    let is = subst (λ key. IsIndexEntry (length rs) (field_at key rs) entry) c.flat-key.ensures c.in-Some.ensures in
    let within : All (λ i. i < length rs) s.candidates.members = subst (λ b. All (λ i. i < b) s.candidates.members) c.self.invariant (c.keep_variant.ensures.within c.if-keep_variant.true) in
    let named = sym c.if-keep_variant.true ∙ c.keep_variant.ensures.named in
    let kept = rw c.if-keep_variant.true at c.keep_variant.ensures.kept in
    let keys = ap (map key_of) c.in_ok-insert.ensures.keys ∙ seen_with s.seen.keys c.flat-key.result ∙ ap (insert_key key_cmp (map key_of s.seen.keys)) c.flat-key.ensures in
    named_left tag variant before entry is within c.keep_variant.new.candidates.members (map key_of c.insert.new.self.keys) named (ap (λ (t : IndexSet). t.members) kept) keys
    ∙ ap (see_tag tag variant) c.self.view_is

pub returns-clause-named : goal.returns-clause-named
returns-clause-named c =
    let s = c.self.inside in
    let tag = c.args.tag.now in
    let variant = c.args.variant.now in
    let rs = s.schema.now.resolutions in
    let entry = c.in-Some.entry.now in
    let before : State = record { schema = s.schema.now; candidates = s.candidates.members; seen = map key_of s.seen.keys } in
    let is = subst (λ key. IsIndexEntry (length rs) (field_at key rs) entry) c.flat-key.ensures c.in-Some.ensures in
    let same : c.keep_variant.new.candidates ≡ s.candidates = rw c.if-keep_variant.false at c.keep_variant.ensures.kept in
    let low = subst (λ (t : IndexSet). All (λ i. i < t.bound) t.members) same c.keep_holders.ensures.within in
    let within : All (λ i. i < length rs) s.candidates.members = subst (λ b. All (λ i. i < b) s.candidates.members) c.self.invariant low in
    let named = sym c.if-keep_variant.false ∙ c.keep_variant.ensures.named in
    subst (λ (v : State). IsTrue false ↔ (passing (has_variant_under tag variant) (see_key (flat_key tag) v) ≢ [])) c.self.view_is
    (answered tag variant before false (told tag variant before entry is within false named))

pub returns-clause-ok : goal.returns-clause-ok
returns-clause-ok c =
    let s = c.self.inside in
    let tag = c.args.tag.now in
    let variant = c.args.variant.now in
    let rs = s.schema.now.resolutions in
    let entry = c.in-Some.entry.now in
    let before : State = record { schema = s.schema.now; candidates = s.candidates.members; seen = map key_of s.seen.keys } in
    let is = subst (λ key. IsIndexEntry (length rs) (field_at key rs) entry) c.flat-key.ensures c.in-Some.ensures in
    let same : c.keep_variant.new.candidates ≡ s.candidates = rw c.if-keep_variant.false at c.keep_variant.ensures.kept in
    let low = subst (λ (t : IndexSet). All (λ i. i < t.bound) t.members) same c.keep_holders.ensures.within in
    let within : All (λ i. i < length rs) s.candidates.members = subst (λ b. All (λ i. i < b) s.candidates.members) c.self.invariant low in
    let named = sym c.if-keep_variant.false ∙ c.keep_variant.ensures.named in
    let left = ap (λ (t : IndexSet). t.members) c.keep_holders.ensures.kept ∙ ap (λ (t : IndexSet). or_all (filter (has_index entry.set.members) t.members) t.members) same in
    let keys = ap (map key_of) c.in_ok-insert.ensures.keys ∙ seen_with s.seen.keys c.flat-key.result ∙ ap (insert_key key_cmp (map key_of s.seen.keys)) c.flat-key.ensures in
    unnamed_left tag variant before entry is within c.keep_holders.new.candidates.members (map key_of c.insert.new.self.keys) named left keys
    ∙ ap (see_tag tag variant) c.self.view_is
