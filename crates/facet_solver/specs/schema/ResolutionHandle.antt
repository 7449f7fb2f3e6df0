-- Handles of the resolutions of a schema.
use Rattle.std.specs.Prelude.{◌≡◌, ℕ, Bool, Some, nat_eq, slice_get}
use Rattle.facet_solver_shape.specs.Resolved.{Resolved}
use Rattle.std.specs.Cmp.{IsEquivalence}
use Rattle.std.proofs.lemmas.Cmp.{nat_eq_equiv}
use Rattle.facet_solver.specs.declared.schema.handle.ResolutionHandle.{ResolutionHandle}
use Rattle.facet_solver.specs.schema.Schema.{SchemaView}

-- the index of a handle's resolution among those of its schema
abbrev pub index_of : ResolutionHandle → ℕ
index_of handle = handle.index

-- a handle's resolution
abbrev pub resolution_of : ResolutionHandle → Resolved
resolution_of handle = handle.resolution.now

-- a handle of a schema: it holds the resolution at its index
abbrev pub IsHandleOf : SchemaView → ResolutionHandle → Type 0
IsHandleOf schema handle =
    slice_get schema.resolutions (index_of handle) ≡ Some (resolution_of handle)

-- whether two handles have one index
abbrev pub same_index : ResolutionHandle → ResolutionHandle → Bool
same_index g h = nat_eq (index_of g) (index_of h)

-- which is an equivalence
pub same_index_equiv : IsEquivalence same_index
same_index_equiv = record {
  refl = λ g. nat_eq_equiv.refl (index_of g);
  symm = λ g h. nat_eq_equiv.symm (index_of g) (index_of h);
  congr = λ f g h. nat_eq_equiv.congr (index_of f) (index_of g) (index_of h);
}
