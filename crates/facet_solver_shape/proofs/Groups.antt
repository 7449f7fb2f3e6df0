-- The groups of more variants, and that each variant stands in one of them.
use Rattle.std.proofs.Common.{◌≡◌, ℕ, ◌+◌, ◌<◌, Bool, Option, List, [], ◌∷◌, ◌++◌, filter, take, length, get_or, sym, ap, ◌∙◌, true, false, cond, Some, None, refl, inl, inr}
use Rattle.std.proofs.lemmas.List.{take_more, append-nil}
use Rattle.std.proofs.lemmas.List.Elements.{filter-append, filter_map-append}
use Rattle.facet_solver_shape.specs.declared.shape.Shape.{Shape}
use Rattle.facet_solver_shape.specs.declared.shape.Variant.{Variant}
use Rattle.facet_solver_shape.specs.declared.shape.ScalarType.{ScalarType}
use Rattle.facet_solver_shape.specs.declared.variants.format.VariantFormat.{VariantFormat}
use Rattle.facet_solver_shape.specs.Formats.{format_of, is_unit, expects_mapping}
use Rattle.facet_solver_shape.specs.Groups.{groups_of, joined, ends_at, scalar_shape, sequence_length, is_other, listed_by, Entry, entry_variants, KeepsOrder, IsPartition}
use Rattle.facet_solver_shape.specs.Scalars.{is_bool, is_int, is_float, is_string, end_scalar}
use Rattle.std.specs.Option.{option_map, option_map_or}
use Rattle.std.specs.List.{cons_option}
use Rattle.std.specs.List.Sorted.{IsPermutation}
use Rattle.std.proofs.lemmas.List.Sorted.{IsPermutation-refl, IsPermutation-sym, IsPermutation-cons, IsPermutation-trans, IsPermutation-middle, IsPermutation-append_right}
use Rattle.facet_solver_shape.specs.declared.shape.ScalarType.TheVariants.{Unit as UnitType, Other, Bool as BoolType, Char, Str, String, CowStr, F32, F64}
use Rattle.facet_solver_shape.specs.declared.variants.format.VariantFormat.TheVariants.{Unit as UnitFormat, NewtypeScalar, NewtypeStruct, NewtypeTuple, NewtypeSequence, NewtypeOther, Tuple, Struct}

module _ (shapes : List Shape) where
  -- the variants of one list and then of another are grouped list by list
  pub groups_of-append : (xs ys : List Variant) → groups_of shapes (xs ++ ys) ≡ joined (groups_of shapes xs) (groups_of shapes ys)
  groups_of-append xs ys =
      λ i. record {
        unit_variants = kept is_unit i;
        tuple_variants = listed sequence_length i;
        struct_variants = kept expects_mapping i;
        scalar_variants = listed scalar_shape i;
        bool_variants = typed is_bool i;
        int_variants = typed is_int i;
        float_variants = typed is_float i;
        string_variants = typed is_string i;
        other_variants = kept is_other i;
      }
    where
      kept : (test : VariantFormat → Bool) → let p : Variant → Bool = λ v. test (format_of shapes v) in filter p (xs ++ ys) ≡ filter p xs ++ filter p ys
      kept test = filter-append (λ v. test (format_of shapes v)) xs ys

      listed : (number : VariantFormat → Option ℕ) → listed_by shapes number (xs ++ ys) ≡ listed_by shapes number xs ++ listed_by shapes number ys
      listed number = filter_map-append _ xs ys

      typed : (test : ScalarType → Bool) → let p = ends_at shapes test in let of = listed_by shapes scalar_shape in filter p (of (xs ++ ys)) ≡ filter p (of xs) ++ filter p (of ys)
      typed test = ap (filter (ends_at shapes test)) (listed scalar_shape) ∙ filter-append (ends_at shapes test) (listed_by shapes scalar_shape xs) (listed_by shapes scalar_shape ys)

  -- the variants before an index, and the one at it
  pub groups_of-more : (vs : List Variant) (k : ℕ) (v : Variant) → k < length vs → v ≡ get_or vs k v → joined (groups_of shapes (take k vs)) (groups_of shapes (v ∷ [])) ≡ groups_of shapes (take (k + 1) vs)
  groups_of-more vs k v inside is =
      sym (groups_of-append (take k vs) (v ∷ []))
      ∙ ap (λ x. groups_of shapes (take k vs ++ x ∷ [])) is
      ∙ ap (groups_of shapes) (sym (take_more vs k v inside))

module _ {X : Type 0} where
  -- one more element of the second part is one more of the whole
  behind : (xs ys zs : List X) (x : X) → IsPermutation (x ∷ ys) zs → IsPermutation (x ∷ (xs ++ ys)) (xs ++ zs)
  behind xs ys zs x h =
      IsPermutation-trans _ _ _ (IsPermutation-sym _ _ (IsPermutation-middle xs x ys)) (IsPermutation-append_right xs (x ∷ ys) zs h)

  -- five parts, and one more element in one of them
  module _ (a b c d e all : List X) (x : X) (h : IsPermutation all (a ++ (b ++ (c ++ (d ++ e))))) where
    more : (zs : List X) → IsPermutation (x ∷ (a ++ (b ++ (c ++ (d ++ e))))) zs → IsPermutation (x ∷ all) zs
    more zs = IsPermutation-trans _ _ _ (IsPermutation-cons x _ _ h)

    pub in_first : IsPermutation (x ∷ all) (x ∷ a ++ (b ++ (c ++ (d ++ e))))
    in_first = IsPermutation-cons x _ _ h

    pub in_second : IsPermutation (x ∷ all) (a ++ (x ∷ b ++ (c ++ (d ++ e))))
    in_second = more _ (behind a _ _ x (IsPermutation-refl _))

    pub in_third : IsPermutation (x ∷ all) (a ++ (b ++ (x ∷ c ++ (d ++ e))))
    in_third = more _ (behind a _ _ x (behind b _ _ x (IsPermutation-refl _)))

    pub in_fourth : IsPermutation (x ∷ all) (a ++ (b ++ (c ++ (x ∷ d ++ e))))
    in_fourth = more _ (behind a _ _ x (behind b _ _ x (behind c _ _ x (IsPermutation-refl _))))

    pub in_fifth : IsPermutation (x ∷ all) (a ++ (b ++ (c ++ (d ++ x ∷ e))))
    in_fifth = more _ (behind a _ _ x (behind b _ _ x (behind c _ _ x (behind d _ _ x (IsPermutation-refl _)))))

-- one more variant, by its format
one_more : (format : VariantFormat) (units : List Variant) (scalars tuples : List Entry) (structs others all : List Variant) (v : Variant)
    → IsPermutation all (units ++ (entry_variants scalars ++ (entry_variants tuples ++ (structs ++ others))))
    → IsPermutation (v ∷ all) (cond (is_unit format) (v ∷ units) units
    ++ (entry_variants (cons_option (option_map (λ n. (v, n)) (scalar_shape format)) scalars)
    ++ (entry_variants (cons_option (option_map (λ n. (v, n)) (sequence_length format)) tuples)
    ++ (cond (expects_mapping format) (v ∷ structs) structs ++ cond (is_other format) (v ∷ others) others))))
one_more UnitFormat a b c d e all v h = in_first a (entry_variants b) (entry_variants c) d e all v h
one_more (NewtypeScalar shape) a b c d e all v h = in_second a (entry_variants b) (entry_variants c) d e all v h
one_more (NewtypeStruct shape) a b c d e all v h = in_fourth a (entry_variants b) (entry_variants c) d e all v h
one_more (NewtypeTuple shape arity) a b c d e all v h = in_third a (entry_variants b) (entry_variants c) d e all v h
one_more (NewtypeSequence shape) a b c d e all v h = in_third a (entry_variants b) (entry_variants c) d e all v h
one_more (NewtypeOther shape) a b c d e all v h = in_fifth a (entry_variants b) (entry_variants c) d e all v h
one_more (Tuple arity) a b c d e all v h = in_third a (entry_variants b) (entry_variants c) d e all v h
one_more Struct a b c d e all v h = in_fourth a (entry_variants b) (entry_variants c) d e all v h

-- neither a bool nor a number nor a text, or no scalar type
abbrev has_no_list : Option ScalarType → Bool
has_no_list None = true
has_no_list (Some UnitType) = true
has_no_list (Some Other) = true
has_no_list (Some _) = false

-- one more scalar, by the scalar type at its end
one_more_scalar : (type : Option ScalarType) (bools ints floats strings rest all : List Entry) (x : Entry)
    → IsPermutation all (bools ++ (ints ++ (floats ++ (strings ++ rest))))
    → IsPermutation (x ∷ all) (cond (option_map_or is_bool type false) (x ∷ bools) bools
    ++ (cond (option_map_or is_int type false) (x ∷ ints) ints
    ++ (cond (option_map_or is_float type false) (x ∷ floats) floats
    ++ (cond (option_map_or is_string type false) (x ∷ strings) strings ++ cond (has_no_list type) (x ∷ rest) rest))))
one_more_scalar None = in_fifth
one_more_scalar (Some UnitType) = in_fifth
one_more_scalar (Some Other) = in_fifth
one_more_scalar (Some BoolType) = in_first
one_more_scalar (Some F32) = in_third
one_more_scalar (Some F64) = in_third
one_more_scalar (Some String) = in_fourth
one_more_scalar (Some CowStr) = in_fourth
one_more_scalar (Some Str) = in_fourth
one_more_scalar (Some Char) = in_fourth
one_more_scalar (Some _) = in_second

module _ {X : Type 0} where
  left_out : (x : X) (xs ys : List X) → KeepsOrder xs ys → KeepsOrder (x ∷ xs) ys
  left_out x xs [] h = tt
  left_out x xs (y ∷ ys) h = inr h

  KeepsOrder-filter : (p : X → Bool) (xs : List X) → KeepsOrder xs (filter p xs)
  KeepsOrder-filter p [] = tt
  KeepsOrder-filter p (x ∷ xs) = go (p x) (KeepsOrder-filter p xs)
    where
      go : (b : Bool) → KeepsOrder xs (filter p xs) → KeepsOrder (x ∷ xs) (cond b (x ∷ filter p xs) (filter p xs))
      go true rest = inl (refl, rest)
      go false rest = left_out x xs _ rest

module _ (shapes : List Shape) where
  KeepsOrder-listed_by : (number : VariantFormat → Option ℕ) (vs : List Variant) → KeepsOrder vs (entry_variants (listed_by shapes number vs))
  KeepsOrder-listed_by number [] = tt
  KeepsOrder-listed_by number (v ∷ vs) = go (number (format_of shapes v)) (KeepsOrder-listed_by number vs)
    where
      go : (o : Option ℕ) → KeepsOrder vs (entry_variants (listed_by shapes number vs)) → KeepsOrder (v ∷ vs) (entry_variants (cons_option (option_map (λ n. (v, n)) o) (listed_by shapes number vs)))
      go None rest = left_out v vs _ rest
      go (Some n) rest = inl (refl, rest)

  abbrev rest_of : List Entry → List Entry
  rest_of = filter (λ e. has_no_list (end_scalar shapes e.1))

  each_scalar_once : (xs : List Entry)
      → IsPermutation xs (filter (ends_at shapes is_bool) xs ++ (filter (ends_at shapes is_int) xs ++ (filter (ends_at shapes is_float) xs ++ (filter (ends_at shapes is_string) xs ++ rest_of xs))))
  each_scalar_once [] = IsPermutation-refl []
  each_scalar_once (x ∷ xs) = one_more_scalar (end_scalar shapes x.1) _ _ _ _ _ xs x (each_scalar_once xs)

  each_variant_once : (vs : List Variant)
      → let g = groups_of shapes vs in
      IsPermutation vs (g.unit_variants ++ (entry_variants g.scalar_variants ++ (entry_variants g.tuple_variants ++ (g.struct_variants ++ g.other_variants))))
  each_variant_once [] = IsPermutation-refl []
  each_variant_once (v ∷ vs) =
      let g = groups_of shapes vs in
      one_more (format_of shapes v) g.unit_variants g.scalar_variants g.tuple_variants g.struct_variants g.other_variants vs v (each_variant_once vs)

  pub groups_of-IsPartition : (vs : List Variant) → IsPartition vs (groups_of shapes vs)
  groups_of-IsPartition vs =
      let scalars = (groups_of shapes vs).scalar_variants in
      record {
        variants_in_one = record {
          once = rw append-nil (each_variant_once vs);
          in_order = (KeepsOrder-filter _ vs, (KeepsOrder-listed_by scalar_shape vs, (KeepsOrder-listed_by sequence_length vs, (KeepsOrder-filter _ vs, (KeepsOrder-filter _ vs, tt)))));
        };
        rest = rest_of scalars;
        scalars_in_one = record {
          once = rw append-nil (each_scalar_once scalars);
          in_order = (KeepsOrder-filter _ scalars, (KeepsOrder-filter _ scalars, (KeepsOrder-filter _ scalars, (KeepsOrder-filter _ scalars, (KeepsOrder-filter _ scalars, tt)))));
        };
      }
