use Rattle.std.proofs.Common.{◌≡◌, ◌-◌, ◌<◌, [], ◌∷◌, length, Some, None, sym, ap, ap₂, ◌∙◌, arith}
use Rattle.json.specs.Token.{Token}
use Rattle.json.specs.Json.{parse_map, after_end_array, read_key, items, members, value}
use Rattle.json.specs.Reads.{token_of}
use Rattle.json.proofs.Grammar.{value_is, value-begin_array, value-begin_object, read_key-shorter}
use Rattle.facet_solver_reader.specs.Documents.{number, list, object, view}
use Rattle.facet_solver_reader.proofs.Views.{view-Bool, view-List, view-Null, view-Number, view-Object, view-Text}
use Rattle.facet_solver_json.specs.Values.{document_of, items_of, members_of}
use Rattle.facet_solver_json.proofs.Reading.{item_read, item_refused, items_before, items_before-no_items, items_over, key_refused, mapped-array, mapped-object, member_read, member_refused, members_before, members_before-no_members, members_over, none_before, one_more_item, one_more_member}
use Rattle.facet_solver_json.proofs.value.+value.Goals as goal

-- ---- a value

pub read_value-returns-in_err-token-clause-invalid : goal.read_value-returns-in_err-token-clause-invalid
read_value-returns-in_err-token-clause-invalid t c offset refused =
    let empty : c.args.reader.now ≡ [] = grind arith in
    ap (parse_map document_of) (ap (value c.args.depth) empty ∙ value_is c.args.depth [])

pub read_value-returns-then-depth-eq0-clause-invalid : goal.read_value-returns-then-depth-eq0-clause-invalid
unfolding value
read_value-returns-then-depth-eq0-clause-invalid t c offset never =
    let first : c.args.reader.now ≡ token_of c.in_ok-token.token ∷ c.next.new.self = grind arith in
    let none : c.args.depth ≡ 0 = omega arith in
    ap (parse_map document_of) (ap₂ value none (first ∙ ap (λ k. token_of k ∷ c.next.new.self) c.in-BeginArray.is))

pub read_value-returns-then-depth-eq0-2-clause-invalid : goal.read_value-returns-then-depth-eq0-2-clause-invalid
unfolding value
read_value-returns-then-depth-eq0-2-clause-invalid t c offset never =
    let first : c.args.reader.now ≡ token_of c.in_ok-token.token ∷ c.next.new.self = grind arith in
    let none : c.args.depth ≡ 0 = omega arith in
    ap (parse_map document_of) (ap₂ value none (first ∙ ap (λ k. token_of k ∷ c.next.new.self) c.in-BeginObject.is))

pub read_value-returns-in-EndObject-clause-invalid : goal.read_value-returns-in-EndObject-clause-invalid
read_value-returns-in-EndObject-clause-invalid t c offset refused =
    let first : c.args.reader.now ≡ token_of c.in_ok-token.token ∷ c.next.new.self = grind arith in
    let none : value c.args.depth c.args.reader.now ≡ None = rw (value_is c.args.depth c.args.reader.now, first) (grind arith) in
    ap (parse_map document_of) none

pub read_value-returns-in-Key-clause-invalid : goal.read_value-returns-in-Key-clause-invalid
read_value-returns-in-Key-clause-invalid t c offset refused =
    let first : c.args.reader.now ≡ token_of c.in_ok-token.token ∷ c.next.new.self = grind arith in
    let none : value c.args.depth c.args.reader.now ≡ None = rw (value_is c.args.depth c.args.reader.now, first) (grind arith) in
    ap (parse_map document_of) none

pub read_value-returns-in-Null-clause-ok : goal.read_value-returns-in-Null-clause-ok
read_value-returns-in-Null-clause-ok t c =
    let first : c.args.reader.now ≡ token_of c.in_ok-token.token ∷ c.next.new.self = grind arith in
    let is : c.args.reader.now ≡ Token.null ∷ c.next.new.self = grind (arith, first) in
    ap (parse_map document_of) (ap (value c.args.depth) is ∙ value_is c.args.depth _) ∙ ap (λ d. Some (d, c.next.new.self)) (sym view-Null)

pub read_value-returns-in-Bool-clause-ok : goal.read_value-returns-in-Bool-clause-ok
read_value-returns-in-Bool-clause-ok t c =
    let first : c.args.reader.now ≡ token_of c.in_ok-token.token ∷ c.next.new.self = grind arith in
    let is : c.args.reader.now ≡ Token.boolean c.in-Bool.truth ∷ c.next.new.self = grind (arith, first) in
    ap (parse_map document_of) (ap (value c.args.depth) is ∙ value_is c.args.depth _) ∙ ap (λ d. Some (d, c.next.new.self)) (sym (view-Bool c.in-Bool.truth))

pub read_value-returns-in-Number-clause-ok : goal.read_value-returns-in-Number-clause-ok
read_value-returns-in-Number-clause-ok t c =
    let first : c.args.reader.now ≡ token_of c.in_ok-token.token ∷ c.next.new.self = grind arith in
    let is : c.args.reader.now ≡ Token.number c.in-Number.text.now ∷ c.next.new.self = grind (arith, first) in
    let seen = view-Number c.new.result ∙ ap number c.new.ensures in
    ap (parse_map document_of) (ap (value c.args.depth) is ∙ value_is c.args.depth _) ∙ ap (λ d. Some (d, c.next.new.self)) (sym seen)

pub read_value-returns-in-String-clause-ok : goal.read_value-returns-in-String-clause-ok
read_value-returns-in-String-clause-ok t c =
    let first : c.args.reader.now ≡ token_of c.in_ok-token.token ∷ c.next.new.self = grind arith in
    let is : c.args.reader.now ≡ Token.string c.in-String.text.now ∷ c.next.new.self = grind (arith, first) in
    ap (parse_map document_of) (ap (value c.args.depth) is ∙ value_is c.args.depth _) ∙ ap (λ d. Some (d, c.next.new.self)) (sym (view-Text c.in-String.text))

pub read_value-returns-in_err-read_items-in-BeginArray-clause-invalid : goal.read_value-returns-in_err-read_items-in-BeginArray-clause-invalid
read_value-returns-in_err-read_items-in-BeginArray-clause-invalid t c offset refused =
    let first : c.args.reader.now ≡ token_of c.in_ok-token.token ∷ c.next.new.self = grind arith in
    let opened = ap (parse_map document_of) (ap (value c.args.depth) (first ∙ ap (λ k. token_of k ∷ c.next.new.self) c.in-BeginArray.is) ∙ value-begin_array c.args.depth c.next.new.self (omega arith)) ∙ mapped-array (items (value (c.args.depth - 1)) (length c.next.new.self) c.next.new.self) in
    opened ∙ ap (parse_map list) (c.read_items.ensures.invalid offset (grind arith))

pub read_value-returns-in_err-read_members-in-BeginObject-clause-invalid : goal.read_value-returns-in_err-read_members-in-BeginObject-clause-invalid
read_value-returns-in_err-read_members-in-BeginObject-clause-invalid t c offset refused =
    let first : c.args.reader.now ≡ token_of c.in_ok-token.token ∷ c.next.new.self = grind arith in
    let opened = ap (parse_map document_of) (ap (value c.args.depth) (first ∙ ap (λ k. token_of k ∷ c.next.new.self) c.in-BeginObject.is) ∙ value-begin_object c.args.depth c.next.new.self (omega arith)) ∙ mapped-object (members (value (c.args.depth - 1)) (length c.next.new.self) c.next.new.self) in
    opened ∙ ap (parse_map object) (c.read_members.ensures.invalid offset (grind arith))

pub read_value-returns-in_ok-read_items-in-BeginArray-clause-ok : goal.read_value-returns-in_ok-read_items-in-BeginArray-clause-ok
read_value-returns-in_ok-read_items-in-BeginArray-clause-ok t c =
    let first : c.args.reader.now ≡ token_of c.in_ok-token.token ∷ c.next.new.self = grind arith in
    let opened = ap (parse_map document_of) (ap (value c.args.depth) (first ∙ ap (λ k. token_of k ∷ c.next.new.self) c.in-BeginArray.is) ∙ value-begin_array c.args.depth c.next.new.self (omega arith)) ∙ mapped-array (items (value (c.args.depth - 1)) (length c.next.new.self) c.next.new.self) in
    let found = c.in_ok-read_items-in-BeginArray in
    opened ∙ ap (parse_map list) found.ensures.ok ∙ ap (λ d. Some (d, c.read_items.new.reader)) (sym (view-List found.field-0))

pub read_value-returns-in_ok-read_members-in-BeginObject-clause-ok : goal.read_value-returns-in_ok-read_members-in-BeginObject-clause-ok
read_value-returns-in_ok-read_members-in-BeginObject-clause-ok t c =
    let first : c.args.reader.now ≡ token_of c.in_ok-token.token ∷ c.next.new.self = grind arith in
    let opened = ap (parse_map document_of) (ap (value c.args.depth) (first ∙ ap (λ k. token_of k ∷ c.next.new.self) c.in-BeginObject.is) ∙ value-begin_object c.args.depth c.next.new.self (omega arith)) ∙ mapped-object (members (value (c.args.depth - 1)) (length c.next.new.self) c.next.new.self) in
    let found = c.in_ok-read_members-in-BeginObject in
    opened ∙ ap (parse_map object) found.ensures.ok ∙ ap (λ d. Some (d, c.read_members.new.reader)) (sym (view-Object found.field-0))

-- ---- the values of a list

pub read_items-loop-alloc-init : goal.read_items-loop-alloc-init
read_items-loop-alloc-init t c =
    let all = parse_map items_of (items (value c.args.depth) (length c.args.reader.now) c.args.reader.now) in
    (length c.args.reader.now, omega arith, none_before all ∙ ap (λ ds. parse_map (items_before ds) all) (sym c.new-found.ensures.items), omega arith)

pub read_items-returns-in_err-item-clause-invalid : goal.read_items-returns-in_err-item-clause-invalid
read_items-returns-in_err-item-clause-invalid t c offset refused =
    let p = value c.args.depth in
    let l = c.loop-alloc in
    let n = l.invariant.0 in
    let going : (after_end_array l.reader ≡ None) × (c.take_end_array.new.self ≡ l.reader) = grind arith in
    l.invariant.2 ∙ ap (parse_map (items_before l.found.items)) (item_refused p n l.reader going.0 (rw (← going.1) (c.read_value.ensures.invalid offset (grind arith))))

pub read_items-loop-alloc-preserved : goal.read_items-loop-alloc-preserved
read_items-loop-alloc-preserved t c =
    let p = value c.args.depth in
    let l = c.loop-alloc in
    let n = l.invariant.0 in
    let going : (after_end_array l.reader ≡ None) × (c.take_end_array.new.self ≡ l.reader) = grind arith in
    let done = c.in_ok-item.ensures in
    let d = c.in_ok-item.item in
    let r = c.read_value.new.reader in
    let less : length r < length l.reader = rw (← going.1) done.shorter in
    let turn = item_read p n l.reader r (view d) (omega (arith, l.invariant.1)) going.0 (rw (← going.1) done.ok) in (
      n - 1,
      omega (arith, l.invariant.1),
      l.invariant.2 ∙ ap (parse_map (items_before l.found.items)) turn ∙ one_more_item l.found.items d _
          ∙ ap (λ ds. parse_map (items_before ds) (parse_map items_of (items p (n - 1) r))) (sym c.in_ok-push.ensures.items),
      omega (arith, l.invariant.3),
    )

pub read_items-returns-clause-ok : goal.read_items-returns-clause-ok
read_items-returns-clause-ok t c =
    let p = value c.args.depth in
    let l = c.loop-alloc in
    let n = l.invariant.0 in
    let r = c.take_end_array.new.self in
    l.invariant.2 ∙ ap (parse_map (items_before l.found.items)) (items_over p n l.reader r l.invariant.1 (grind arith)) ∙ ap (λ ds. Some (ds, r)) (items_before-no_items l.found.items)

-- ---- the members of an object

pub read_members-loop-found-init : goal.read_members-loop-found-init
read_members-loop-found-init t c =
    let all = parse_map members_of (members (value c.args.depth) (length c.args.reader.now) c.args.reader.now) in
    (length c.args.reader.now, omega arith, none_before all ∙ ap (λ ms. parse_map (members_before ms) all) (sym c.new-found.ensures.items), omega arith)

pub read_members-returns-in_err-name-clause-invalid : goal.read_members-returns-in_err-name-clause-invalid
read_members-returns-in_err-name-clause-invalid t c offset refused =
    let p = value c.args.depth in
    let l = c.loop-found in
    let n = l.invariant.0 in
    l.invariant.2 ∙ ap (parse_map (members_before l.found.items)) (key_refused p n l.reader (c.next_name.ensures.invalid offset (grind arith)))

pub read_members-returns-in_err-value-clause-invalid : goal.read_members-returns-in_err-value-clause-invalid
read_members-returns-in_err-value-clause-invalid t c offset refused =
    let p = value c.args.depth in
    let l = c.loop-found in
    let n = l.invariant.0 in
    let k = c.in-Some.name.now in
    let s = c.next_name.new.reader in
    let named : read_key l.reader ≡ Some (Some k, s) = grind arith in
    l.invariant.2 ∙ ap (parse_map (members_before l.found.items)) (member_refused p n k l.reader s named (c.read_value.ensures.invalid offset (grind arith)))

pub read_members-loop-found-preserved : goal.read_members-loop-found-preserved
read_members-loop-found-preserved t c =
    let p = value c.args.depth in
    let l = c.loop-found in
    let n = l.invariant.0 in
    let k = c.in-Some.name.now in
    let s = c.next_name.new.reader in
    let named : read_key l.reader ≡ Some (Some k, s) = grind arith in
    let done = c.in_ok-value.ensures in
    let d = c.in_ok-value.value in
    let r = c.read_value.new.reader in
    let less = read_key-shorter l.reader (Some k) s named in
    let lesser = done.shorter in
    let turn = member_read p n k l.reader s r (view d) (omega (arith, l.invariant.1)) named done.ok in (
      n - 1,
      omega (arith, l.invariant.1),
      l.invariant.2 ∙ ap (parse_map (members_before l.found.items)) turn ∙ one_more_member l.found.items (c.in-Some.name, d) _
          ∙ ap (λ ms. parse_map (members_before ms) (parse_map members_of (members p (n - 1) r))) (sym c.in_ok-push.ensures.items),
      omega (arith, l.invariant.3),
    )

pub read_members-returns-clause-ok : goal.read_members-returns-clause-ok
read_members-returns-clause-ok t c =
    let p = value c.args.depth in
    let l = c.loop-found in
    let n = l.invariant.0 in
    let r = c.next_name.new.reader in
    l.invariant.2 ∙ ap (parse_map (members_before l.found.items)) (members_over p n l.reader r l.invariant.1 (grind arith)) ∙ ap (λ ms. Some (ms, r)) (members_before-no_members l.found.items)
