-- Members of a JSON object, by their keys.
use Rattle.std.specs.Prelude.{ℕ, Bool, false, List, [], ◌∷◌, Option, Some, None, option_map, option_and_then, nat_le, if◌then◌else◌}
use Rattle.serde_json.specs.Data.{Data, Items, no_items, item}
use Rattle.serde_json.specs.Find.{get, as_str, as_number, as_u64, as_bool, as_array}
use Rattle.facet_solver.specs.Names.{Name}

-- what a member says, or a value of its own where it is absent
abbrev pub or_absent : {A : Type 0} → A → (Data → Option A) → Option Data → Option A
or_absent absent read None = Some absent
or_absent absent read (Some d) = read d

-- on from a value, where there is one
abbrev pub given : {A B : Type 0} → Option A → (A → Option B) → Option B
given o go = option_and_then go o

-- what each item says, where each says something
abbrev pub each : {A : Type 0} → (Data → Option A) → Items → Option (List A)
each read no_items = Some []
each read (item d ds) = given (read d) (λ x. option_map (λ xs. x ∷ xs) (each read ds))

-- the text under a key
abbrev pub text_at : Name → Data → Option Name
text_at key d = option_and_then as_str (get key d)

-- a text that may be absent
abbrev pub optional_text_at : Name → Data → Option (Option Name)
optional_text_at key d = or_absent None (λ t. option_map Some (as_str t)) (get key d)

-- an index of 32 bits
abbrev pub index_of_number : ℕ → Option ℕ
index_of_number n = if nat_le n 4294967295 then Some n else None

-- a whole number of 32 bits
abbrev pub as_index : Data → Option ℕ
as_index d = option_and_then index_of_number (option_and_then as_u64 (as_number d))

-- the index under a key
abbrev pub index_at : Name → Data → Option ℕ
index_at key d = option_and_then as_index (get key d)

-- an index that may be absent
abbrev pub optional_index_at : Name → Data → Option (Option ℕ)
optional_index_at key d = or_absent None (λ n. option_map Some (as_index n)) (get key d)

-- a truth value, and false where it is absent
abbrev pub flag_at : Name → Data → Option Bool
flag_at key d = or_absent false as_bool (get key d)

-- the items of a list, and none where it is absent
abbrev pub items_at : Name → Data → Option Items
items_at key d = or_absent no_items as_array (get key d)
