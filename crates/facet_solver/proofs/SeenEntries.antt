-- The seen keys with their entries.
use Rattle.std.proofs.Common.{◌≡◌, ℕ, suc, Bool, true, false, cond, not, List, [], ◌∷◌, All, filter, map, ap, refl, ◌∙◌, arith}
use Rattle.std.specs.Option.{option_copied}
use Rattle.facet_solver_shape.specs.Keys.{Key, key_of}
use Rattle.facet_solver_shape.specs.Resolved.{Resolved}
use Rattle.facet_solver.specs.Resolutions.{has_key, passes}
use Rattle.facet_solver.specs.schema.IndexEntries.{holds}
use Rattle.facet_solver.specs.schema.Schema.{SchemaView}
use Rattle.facet_solver.specs.solver.Failure.{names_where}
use Rattle.facet_solver.specs.solver.SeenEntries.{AreSeenEntries, HasEntry, names_without}
use Rattle.facet_solver.specs.declared.solver.report.seen_entries.SeenEntry.{SeenEntry}
use Rattle.facet_solver.proofs.NameEntries.{key_held}

-- a key passes that means nothing in the resolution at an index
abbrev is_unknown : List Resolved → ℕ → Key → Bool
is_unknown rs index key = not (passes (has_key key) rs index)

by_keys : (rs : List Resolved) (index : ℕ) (entries : List SeenEntry) → All (HasEntry rs) entries
    → names_without index entries ≡ names_where (is_unknown rs index) (map (λ e. key_of e.key) entries)
by_keys rs index [] each = refl
by_keys rs index (e ∷ es) each =
    let here : holds (option_copied e.entry) index ≡ passes (has_key (key_of e.key)) rs index = key_held (key_of e.key) rs (option_copied e.entry) (each 0 e (omega arith)) index in
    ap (λ b. map (λ (d : SeenEntry). (key_of d.key).name) (cond (not b) (e ∷ lacking) lacking)) here
    ∙ go (not (passes (has_key (key_of e.key)) rs index)) (by_keys rs index es (λ k d low. each (suc k) d (omega (arith, low))))
  where
    lacking : List SeenEntry
    lacking = filter (λ (d : SeenEntry). not (holds (option_copied d.entry) index)) es

    unknown : List Key
    unknown = filter (is_unknown rs index) (map (λ (d : SeenEntry). key_of d.key) es)

    go : (b : Bool) → map (λ (d : SeenEntry). (key_of d.key).name) lacking ≡ map (λ (k : Key). k.name) unknown
        → map (λ (d : SeenEntry). (key_of d.key).name) (cond b (e ∷ lacking) lacking) ≡ map (λ (k : Key). k.name) (cond b (key_of e.key ∷ unknown) unknown)
    go true same = ap (λ names. (key_of e.key).name ∷ names) same
    go false same = same

-- the names without a resolution are those of the seen keys that mean nothing in it
pub unknown_names : (schema : SchemaView) (seen : List Key) (index : ℕ) (entries : List SeenEntry) → AreSeenEntries schema seen entries
    → names_without index entries ≡ names_where (λ key. not (passes (has_key key) schema.resolutions index)) seen
unknown_names schema seen index entries are =
    by_keys schema.resolutions index entries are.each ∙ ap (names_where (is_unknown schema.resolutions index)) are.keys
