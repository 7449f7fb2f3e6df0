-- The names of the keys that pass a test, key by key.
use Rattle.std.proofs.Common.{◌≡◌, Bool, true, false, List, [], ◌∷◌, map, refl, ap}
use Rattle.facet_solver_shape.specs.Keys.{Key}
use Rattle.facet_solver.specs.solver.Failure.{names_where}

module _ (test : Key → Bool) (key : Key) (rest : List Key) where
  -- a key that passes
  pub name_taken : test key ≡ true → names_where test (key ∷ rest) ≡ key.name ∷ names_where test rest
  name_taken is = rw is refl

  -- a key that does not
  pub name_left : test key ≡ false → names_where test (key ∷ rest) ≡ names_where test rest
  name_left is = rw is refl

-- all pass
pub names_of_all : (keys : List Key) → names_where (λ key. true) keys ≡ map (λ (k : Key). k.name) keys
names_of_all [] = refl
names_of_all (key ∷ keys) = ap (λ names. key.name ∷ names) (names_of_all keys)
