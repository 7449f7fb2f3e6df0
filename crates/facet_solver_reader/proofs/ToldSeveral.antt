-- What is told of lists, tuples and maps.
use Rattle.std.proofs.Common.{◌≡◌, ◌∙◌, sym, ap, ℕ, ◌+◌, List, [], ◌∷◌, ◌++◌, map, zip, take}
use Rattle.std.proofs.Common.{length, Some, slice_get, get_or, true, Vec, Global, arith}
use Rattle.std.proofs.lemmas.List.{map-append, take_more}
use Rattle.std.proofs.lemmas.Option.{get_or_from_slice_get, slice_get_within, slice_get-get_or}
use Rattle.std.proofs.lemmas.Slice.Zip.{get_or-zip, length-zip}
use Rattle.std.specs.Borrow.{Bor}
use Rattle.facet_solver_shape.specs.Names.{Name}
use Rattle.facet_solver_reader.specs.declared.nodes.Nodes.{Nodes}
use Rattle.facet_solver_reader.specs.declared.reading.Reading as code
use Rattle.facet_solver_reader.specs.declared.reading.ReadingKind.TheVariants as kinds
use Rattle.facet_solver_reader.specs.declared.tables.Tables.{Tables}
use Rattle.facet_solver_reader.specs.Choices.{each_of}
use Rattle.facet_solver_reader.specs.Documents.{Member, Tree, list, null, number, object, text, truth}
use Rattle.facet_solver_reader.specs.Kinds.{is_list, is_object}
use Rattle.facet_solver_reader.specs.Nodes.{children, members_in, value_of}
use Rattle.facet_solver_reader.specs.Parts.{of_shape}
use Rattle.facet_solver_reader.specs.Readings.{ReadsValue, inner}
use Rattle.facet_solver_reader.specs.Rules.{a_list, a_map, a_tuple}
use Rattle.facet_solver_reader.specs.Tables.{rules_at}
use Rattle.facet_solver_reader.specs.Told.{TellsAs, entries_of, items_of, places_of, texts}
use Rattle.facet_solver_reader.specs.ToldAt.{IsToldAs}
use Rattle.facet_solver_reader.specs.Values.{ReadsEnd, ReadsEntry, ReadsPlace}
use Rattle.facet_solver_reader.proofs.ToldEach.{EachTold}
use Rattle.facet_solver_reader.proofs.ToldVariants.{tells_same}

-- what stands at one index of two lists stands there in both together
pub zip_at : {A B : Type 0} (xs : List A) (ys : List B) (i : ℕ) (x : A) (y : B)
    → slice_get xs i ≡ Some x → slice_get ys i ≡ Some y → slice_get (zip xs ys) i ≡ Some (x, y)
zip_at xs ys i x y at_x at_y =
    let in_x = slice_get_within xs i x at_x in
    let in_y = slice_get_within ys i y at_y in
    slice_get-get_or (zip xs ys) i (x, y) (omega (arith, length-zip xs ys, in_x, in_y))
    ∙ (ap Some (get_or-zip xs ys i (x, y) in_x in_y)
    ∙ (ap (λ a. Some (a, get_or ys i y)) (get_or_from_slice_get xs i x x at_x)
    ∙ ap (λ b. Some (x, b)) (get_or_from_slice_get ys i y y at_y)))

-- the names of members up to a place, with the one there
pub names_more : (xs : List (Bor Name)) (x : Bor Name) (ms : List Member) (i : ℕ) (m : Member)
    → slice_get ms i ≡ Some m → m.name ≡ x.now
    → texts xs ≡ map (λ (n : Member). n.name) (take i ms)
    → texts (xs ++ x ∷ []) ≡ map (λ (n : Member). n.name) (take (i + 1) ms)
names_more xs x ms i m there same before =
    let named = λ (n : Member). n.name in
    let more : take (i + 1) ms ≡ take i ms ++ m ∷ [] =
    take_more ms i m (slice_get_within ms i m there)
    ∙ ap (λ n. take i ms ++ n ∷ []) (get_or_from_slice_get ms i m m there) in
    map-append (λ (y : Bor Name). y.now) xs (x ∷ [])
    ∙ (ap (λ ns. ns ++ x.now ∷ []) before
    ∙ (ap (λ n. map named (take i ms) ++ n ∷ []) (sym same)
    ∙ (sym (map-append named (take i ms) (m ∷ [])) ∙ ap (map named) (sym more))))

module _ (t : Tables) (nodes : Nodes) (node : ℕ) (w : code.Reading) (none : w.variants.items ≡ [])
  where
    -- what is told of the items of a list
    pub items_told : (s : ℕ) (ws : Vec code.Reading Global) → is_list (value_of nodes node) ≡ true
        → w.kind ≡ kinds.List ws
        → EachTold (rules_at t) t.shapes.now (ReadsValue (rules_at t) (of_shape s))
        (λ v. ((rules_at t).end_of s, v)) (children (value_of nodes node)) ws.items
        → IsToldAs t nodes node (a_list s) w
    items_told s ws is kind h =
        let rules = rules_at t in
        let both = go (value_of nodes node) is h in
        record {
          reading = each_of h.readings;
          reads = both.0;
          tells = tells_same rules t.shapes.now (a_list s) (value_of nodes node) (each_of h.readings)
              [] w.variants.items (kinds.List ws) w.kind (sym none) (sym kind) both.1;
        }
      where
        go : (v : Tree) → is_list v ≡ true
            → (h : EachTold (rules_at t) t.shapes.now (ReadsValue (rules_at t) (of_shape s))
            (λ u. ((rules_at t).end_of s, u)) (children v) ws.items)
            → ReadsEnd (rules_at t) (inner (rules_at t)) (a_list s) v (each_of h.readings)
            × TellsAs (rules_at t) t.shapes.now (a_list s) v (each_of h.readings) []
            (kinds.List ws)
        go (list vs) is h = (h.reads, items_of s vs h.readings ws h.tells)
        go null is h = absurd (cc)
        go (truth b) is h = absurd (cc)
        go (number n) is h = absurd (cc)
        go (text x) is h = absurd (cc)
        go (object ms) is h = absurd (cc)

    -- what is told of the values of a tuple
    pub tuple_told : (ss : List ℕ) (ws : Vec code.Reading Global)
        → is_list (value_of nodes node) ≡ true
        → length ss ≡ length (children (value_of nodes node)) → w.kind ≡ kinds.List ws
        → EachTold (rules_at t) t.shapes.now (ReadsPlace (ReadsValue (rules_at t)))
        (λ p. ((rules_at t).end_of p.0, p.1)) (zip ss (children (value_of nodes node))) ws.items
        → IsToldAs t nodes node (a_tuple ss) w
    tuple_told ss ws is same kind h =
        let rules = rules_at t in
        let both = go (value_of nodes node) is same h in
        record {
          reading = each_of h.readings;
          reads = both.0;
          tells = tells_same rules t.shapes.now (a_tuple ss) (value_of nodes node)
              (each_of h.readings) [] w.variants.items (kinds.List ws) w.kind (sym none) (sym kind)
              both.1;
        }
      where
        go : (v : Tree) → is_list v ≡ true → length ss ≡ length (children v)
            → (h : EachTold (rules_at t) t.shapes.now (ReadsPlace (ReadsValue (rules_at t)))
            (λ p. ((rules_at t).end_of p.0, p.1)) (zip ss (children v)) ws.items)
            → ReadsEnd (rules_at t) (inner (rules_at t)) (a_tuple ss) v (each_of h.readings)
            × TellsAs (rules_at t) t.shapes.now (a_tuple ss) v (each_of h.readings) []
            (kinds.List ws)
        go (list vs) is same h = ((same, h.reads), places_of ss vs h.readings ws h.tells)
        go null is same h = absurd (cc)
        go (truth b) is same h = absurd (cc)
        go (number n) is same h = absurd (cc)
        go (text x) is same h = absurd (cc)
        go (object ms) is same h = absurd (cc)

    -- what is told of the entries of a map
    pub entries_told : (key s : ℕ) (ns : Vec (Bor Name) Global) (ws : Vec code.Reading Global)
        → is_object (value_of nodes node) ≡ true → w.kind ≡ kinds.Map ns ws
        → texts ns.items ≡ map (λ m. m.name) (members_in (value_of nodes node))
        → EachTold (rules_at t) t.shapes.now
        (ReadsEntry ((rules_at t).is_key key) (ReadsValue (rules_at t)) (of_shape s))
        (λ m. ((rules_at t).end_of s, m.value)) (members_in (value_of nodes node)) ws.items
        → IsToldAs t nodes node (a_map key s) w
    entries_told key s ns ws is kind named h =
        let rules = rules_at t in
        let both = go (value_of nodes node) is named h in
        record {
          reading = each_of h.readings;
          reads = both.0;
          tells = tells_same rules t.shapes.now (a_map key s) (value_of nodes node)
              (each_of h.readings) [] w.variants.items (kinds.Map ns ws) w.kind (sym none) (sym kind)
              both.1;
        }
      where
        go : (v : Tree) → is_object v ≡ true → texts ns.items ≡ map (λ m. m.name) (members_in v)
            → (h : EachTold (rules_at t) t.shapes.now
            (ReadsEntry ((rules_at t).is_key key) (ReadsValue (rules_at t)) (of_shape s))
            (λ m. ((rules_at t).end_of s, m.value)) (members_in v) ws.items)
            → ReadsEnd (rules_at t) (inner (rules_at t)) (a_map key s) v (each_of h.readings)
            × TellsAs (rules_at t) t.shapes.now (a_map key s) v (each_of h.readings) []
            (kinds.Map ns ws)
        go (object ms) is named h = (h.reads, entries_of key s ms h.readings ns ws named h.tells)
        go null is named h = absurd (cc)
        go (truth b) is named h = absurd (cc)
        go (number n) is named h = absurd (cc)
        go (text x) is named h = absurd (cc)
        go (list vs) is named h = absurd (cc)
