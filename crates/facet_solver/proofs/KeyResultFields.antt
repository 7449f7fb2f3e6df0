-- The fields that a key means: the first of each shape.
use Rattle.std.proofs.Common.{◌≡◌, ◌≤◌, ℕ, Bool, ◌||◌, true, false, List, [], ◌∷◌, ◌++◌, map, nat_eq, refl, ap, sym, ◌∙◌, Bor, Option, Some, None, append-nil, append_assoc, length, length-append, arith}
use Rattle.std.specs.List.{cons_option, list_any, filter_map}
use Rattle.std.specs.Prelude.{IfSome, IsSome}
use Rattle.std.proofs.lemmas.Bool.{false≢true}
use Rattle.std.proofs.lemmas.Bool.Decides.{Decides-eqb}
use Rattle.std.proofs.lemmas.List.{length-map, map-append}
use Rattle.std.proofs.lemmas.List.Elements.{filter_map-append}
use Rattle.facet_solver_shape.specs.Fields.{FieldView}
use Rattle.facet_solver_shape.proofs.Lists.{list_any-map}
use Rattle.facet_solver.specs.schema.FewShapes.{has_shape}
use Rattle.facet_solver.specs.schema.Indexed.{HaveShapesOf}
use Rattle.facet_solver.specs.solver.FirstOfEach.{first_of_each, is_among}
use Rattle.facet_solver.specs.solver.KeyResult.{score_at, scored_view, with_score}
use Rattle.facet_solver.proofs.FirstOfEach.{count_firsts, first_of_each-told}
use Rattle.facet_solver.specs.build.Build.{Catalogue}

-- the shape of a field
abbrev shape_of : FieldView → ℕ
shape_of f = f.shape

-- whether a shape is among fields with scores
pub among_scored : (cat : Catalogue) (items : List (Bor FieldView × ℕ)) (fs : List FieldView) (id : ℕ) → map scored_view items ≡ map (with_score cat) fs → list_any (λ (e : Bor FieldView × ℕ). nat_eq e.0.now.shape id) items ≡ is_among shape_of fs id
among_scored cat items fs id e =
    let has_it : FieldView × ℕ → Bool = λ p. nat_eq p.0.shape id in
    sym (list_any-map has_it scored_view items) ∙ ap (list_any has_it) e ∙ list_any-map has_it (with_score cat) fs

-- what a list gives after one more item
pub filter_map_found : {X Y : Type 0} (h : X → Option Y) (ys : List X) (x : X) (y : Y) → h x ≡ Some y → filter_map h (ys ++ x ∷ []) ≡ filter_map h ys ++ y ∷ []
filter_map_found h ys x y e = rw filter_map-append (rw e refl)

pub filter_map_none : {X Y : Type 0} (h : X → Option Y) (ys : List X) (x : X) → h x ≡ None → filter_map h (ys ++ x ∷ []) ≡ filter_map h ys
filter_map_none h ys x e = rw filter_map-append (rw e (append-nil (filter_map h ys)))

module _ (cat : Catalogue) (h : ℕ → Option FieldView) (ys : List ℕ) (i : ℕ) (items : List (Bor FieldView × ℕ)) (so_far : map scored_view items ≡ map (with_score cat) (first_of_each shape_of (filter_map h ys))) where
  abbrev firsts : List FieldView
  firsts = first_of_each shape_of (filter_map h ys)

  -- a number with a field of a new shape
  pub firsts_new : (e : Bor FieldView × ℕ) → h i ≡ Some e.0.now → list_any (λ (d : Bor FieldView × ℕ). nat_eq d.0.now.shape e.0.now.shape) items ≡ false → e.1 ≡ score_at cat e.0.now.shape
      → map scored_view (items ++ e ∷ []) ≡ map (with_score cat) (first_of_each shape_of (filter_map h (ys ++ i ∷ [])))
  firsts_new e found is_new score =
      let g = e.0.now in
      map-append scored_view items (e ∷ [])
      ∙ ap (λ k. k ++ scored_view e ∷ []) so_far
      ∙ ap (λ n. map (with_score cat) firsts ++ (g, n) ∷ []) score
      ∙ sym (map-append (with_score cat) firsts (g ∷ []))
      ∙ ap (map (with_score cat)) (sym (
      ap (first_of_each shape_of) (filter_map_found h ys i g found)
      ∙ first_of_each-told shape_of (filter_map h ys) g false (sym (among_scored cat items firsts g.shape so_far) ∙ is_new)))

  -- a number with a field of a shape that stands there already
  pub firsts_old : (g : FieldView) → h i ≡ Some g → list_any (λ (d : Bor FieldView × ℕ). nat_eq d.0.now.shape g.shape) items ≡ true
      → map scored_view items ≡ map (with_score cat) (first_of_each shape_of (filter_map h (ys ++ i ∷ [])))
  firsts_old g found is_old =
      so_far
      ∙ ap (map (with_score cat)) (sym (
      ap (first_of_each shape_of) (filter_map_found h ys i g found)
      ∙ first_of_each-told shape_of (filter_map h ys) g true (sym (among_scored cat items firsts g.shape so_far) ∙ is_old)))

  -- a number without a field
  pub firsts_none : h i ≡ None → map scored_view items ≡ map (with_score cat) (first_of_each shape_of (filter_map h (ys ++ i ∷ [])))
  firsts_none none = so_far ∙ ap (λ fs. map (with_score cat) (first_of_each shape_of fs)) (sym (filter_map_none h ys i none))

-- numbers whose fields are all of shapes that stand there already
pub firsts_all : (cat : Catalogue) (h : ℕ → Option FieldView) (ys zs : List ℕ) (items : List (Bor FieldView × ℕ))
    → ((i : ℕ) (g : FieldView) → h i ≡ Some g → list_any (λ (d : Bor FieldView × ℕ). nat_eq d.0.now.shape g.shape) items ≡ true)
    → map scored_view items ≡ map (with_score cat) (first_of_each shape_of (filter_map h ys))
    → map scored_view items ≡ map (with_score cat) (first_of_each shape_of (filter_map h (ys ++ zs)))
firsts_all cat h ys [] items old so_far = so_far ∙ ap (λ is. map (with_score cat) (first_of_each shape_of (filter_map h is))) (sym (append-nil ys))
firsts_all cat h ys (i ∷ zs) items old so_far =
    firsts_all cat h (ys ++ i ∷ []) zs items old (go (h i) refl) ∙ ap (λ is. map (with_score cat) (first_of_each shape_of (filter_map h is))) (append_assoc ys (i ∷ []) zs)
  where
    go : (o : Option FieldView) → h i ≡ o → map scored_view items ≡ map (with_score cat) (first_of_each shape_of (filter_map h (ys ++ i ∷ [])))
    go None none = firsts_none cat h ys i items so_far none
    go (Some g) found = firsts_old cat h ys i items so_far g found (old i g found)

-- a shape of a field is among shapes that have each
among_known : (h : ℕ → Option FieldView) (shapes : List ℕ) → HaveShapesOf h shapes → (ys : List ℕ) (id : ℕ) → is_among shape_of (filter_map h ys) id ≡ true → has_shape shapes id ≡ true
among_known h shapes have [] id among = absurd (false≢true among)
among_known h shapes have (y ∷ ys) id among = go (h y) refl among (among_known h shapes have ys id)
  where
    one : (g : FieldView) (b : Bool) → h y ≡ Some g → nat_eq g.shape id ≡ b → (b || is_among shape_of (filter_map h ys) id) ≡ true
        → (is_among shape_of (filter_map h ys) id ≡ true → has_shape shapes id ≡ true) → has_shape shapes id ≡ true
    one g true found same is later = ap (has_shape shapes) (sym ((Decides-eqb g.shape id).0 same)) ∙ have y g found
    one g false found other is later = later is

    go : (o : Option FieldView) → h y ≡ o → is_among shape_of (cons_option o (filter_map h ys)) id ≡ true
        → (is_among shape_of (filter_map h ys) id ≡ true → has_shape shapes id ≡ true) → has_shape shapes id ≡ true
    go None none is later = later is
    go (Some g) found is later = one g (nat_eq g.shape id) found refl is later

module _ (cat : Catalogue) (h : ℕ → Option FieldView) (ys : List ℕ) (items : List (Bor FieldView × ℕ)) (shapes : List ℕ) (have : HaveShapesOf h shapes)
    (all : length shapes ≤ length items) (so_far : map scored_view items ≡ map (with_score cat) (first_of_each shape_of (filter_map h ys))) where
  -- as many fields of different shapes as there are shapes have all of these
  all_there : (i : ℕ) (g : FieldView) → h i ≡ Some g → list_any (λ (d : Bor FieldView × ℕ). nat_eq d.0.now.shape g.shape) items ≡ true
  all_there i g found = go (list_any (λ (d : Bor FieldView × ℕ). nat_eq d.0.now.shape g.shape) items) refl
    where
      seen : List FieldView
      seen = filter_map h ys

      known : (id : ℕ) → is_among shape_of (seen ++ g ∷ []) id ≡ true → has_shape shapes id ≡ true
      known id among = among_known h shapes have (ys ++ i ∷ []) id (ap (λ fs. is_among shape_of fs id) (filter_map_found h ys i g found) ∙ among)

      new : list_any (λ (d : Bor FieldView × ℕ). nat_eq d.0.now.shape g.shape) items ≡ false → ⊥
      new absent =
          let more = first_of_each-told shape_of seen g false (sym (among_scored cat items (first_of_each shape_of seen) g.shape so_far) ∙ absent) in
          let counted = count_firsts shape_of (seen ++ g ∷ []) shapes known in
          let same = sym (length-map items scored_view) ∙ ap length so_far ∙ length-map (first_of_each shape_of seen) (with_score cat) in
          omega (arith, ap length more, length-append (first_of_each shape_of seen) (g ∷ []), counted, all, same)

      go : (b : Bool) → list_any (λ (d : Bor FieldView × ℕ). nat_eq d.0.now.shape g.shape) items ≡ b → b ≡ true
      go true is = refl
      go false absent = absurd (new absent)

  -- so no numbers that follow have a new one
  all_here : (zs : List ℕ) → map scored_view items ≡ map (with_score cat) (first_of_each shape_of (filter_map h (ys ++ zs)))
  all_here zs = firsts_all cat h ys zs items all_there so_far

-- where all shapes are known, and fields of as many stand there already
pub all_shown : (cat : Catalogue) (h : ℕ → Option FieldView) (ys zs : List ℕ) (items : List (Bor FieldView × ℕ)) (known : Option (Bor (List ℕ)))
    → IfSome known (λ shapes. HaveShapesOf h shapes.now) → IsSome known → IfSome known (λ shapes. length shapes.now ≤ length items)
    → map scored_view items ≡ map (with_score cat) (first_of_each shape_of (filter_map h ys))
    → map scored_view items ≡ map (with_score cat) (first_of_each shape_of (filter_map h (ys ++ zs)))
all_shown cat h ys zs items None have some all so_far = absurd (false≢true some)
all_shown cat h ys zs items (Some s) have some all so_far = all_here cat h ys items s.now have all so_far zs
