-- What a structural predicate says of the arguments of a primitive it says of the value that the primitive gives.
use Rattle.std.proofs.Common.{◌≡◌, ℕ, ℤ, pos, negsuc, zero, suc, Bool, true, false, List, [], ◌∷◌, ◌++◌, length, map, subst, cond}
use Rattle.std.specs.Prelude.{◌-◌, ◌+ℤ◌, ◌-ℤ◌, ◌*ℤ◌, ◌==◌, ◌&&◌, nat_le, Option, None, Some, Result, Ok, Err, All, fold, unwrap_or, not, int_div, int_rem, int_lt, int_le, take, drop, is_some, option_and_then}
use Rattle.std.specs.Ordering.{int_eq, is_eq}
use Rattle.std.specs.Int.{int_max, int_min}
use Rattle.std.specs.List.{slice_get, list_all}
use Rattle.std.proofs.lemmas.List.Elements.{All-nil, All-head, All-tail, All-append, All-take, All-drop, All-map}
use Rattle.value_core.specs.declared.key.Key.{Key}
use Rattle.value_core.specs.declared.key.Key.TheVariants as key
use Rattle.value_core.specs.declared.op.Op.{Op}
use Rattle.value_core.specs.declared.op.Op.TheVariants as op
use Rattle.value_core.specs.declared.pair.Pair.{Pair}
use Rattle.value_core.specs.declared.value.Value.{Value}
use Rattle.value_core.specs.declared.value.Value.TheVariants as value
use Rattle.value_core.specs.declared.value.Value.TheOpen as one
use Rattle.value_core.specs.declared.value.Value.TheViews.{out-Value}
use Rattle.value_core.specs.Depth.{depth_of}
use Rattle.value_core.specs.Key.{key_cmp}
use Rattle.value_core.specs.Pairs.{find_key}
use Rattle.value_core.specs.Structural.{IsStructural}
use Rattle.value_core.specs.ToKey.{key_of}
use Rattle.value_core.proofs.Structural.{OfLevel, of_level}
use Rattle.value_core.specs.Texts.{str_text}
use Rattle.value_core.specs.declared.op_fault.OpFault.{OpFault}
use Rattle.value_core.specs.declared.op_fault.OpFault.TheVariants as fault
use Rattle.value_core.specs.primitives.Apply.{of_one, of_two, of_two_or_three, of_first, rule_of, limited, apply_of}
use Rattle.value_core.specs.primitives.Equality.{all_same}
use Rattle.value_core.specs.primitives.Ints.{in_range, checked, folded, on_ints, sum_rule, product_rule, difference_rule, increase_rule, extreme_rule, division_rule, int_mod, in_order, order_rule, test_rule}
use Rattle.value_core.specs.primitives.Kinds.{is_nil, is_bool, is_int, is_string, is_keyword, is_vector, is_map, is_false, int_of}
use Rattle.value_core.specs.primitives.Parts.{item_at, item_of, value_at, count_step, empty_step, get_step, contains_step, item_or, nth_step, conj_step, paired, is_key, put_entry, put_rule, place_entry, vector_or_index, place_rule, assoc_step, drop_key, dissoc_step, key_value, keys_step, vals_step, first_step, last_step, rest_step, between, subvec_step, subvec_to_step, append_step, into_step}
use Rattle.value_core.proofs.primitives.Making.{OfOption, option_by_test, OfPairs, OfEntries, paired-carries, put_entries-carries, place_entries-carries, drop_keys-carries}

-- it holds of the value, where there is one
abbrev pub OfResult : (Value → Type 0) → Result Value OpFault → Type 0
OfResult P (Ok v) = P v
OfResult P (Err fault) = Unit {0}

-- either branch
pub by_test : (P : Value → Type 0) (b : Bool) (r s : Result Value OpFault) → OfResult P r → OfResult P s → OfResult P (cond b r s)
by_test P true r s first second = first
by_test P false r s first second = second

got_at : {X : Type 0} (P : X → Type 0) (xs : List X) (i : ℕ) → All P xs → OfOption P (slice_get xs i)
got_at P [] i all = tt
got_at P (x ∷ xs) zero all = All-head P x xs all
got_at P (x ∷ xs) (suc i) all = got_at P xs i (All-tail P x xs all)

or_default : {X : Type 0} (P : X → Type 0) (found : Option X) (default : X) → OfOption P found → P default → P (unwrap_or found default)
or_default P None default found holds = holds
or_default P (Some x) default found holds = found

module _ (P : Value → Type 0) (structural : IsStructural P) where
  -- ---- numbers of arguments
  of_one-carries : (rule : Value → Result Value OpFault) → ((v : Value) → P v → OfResult P (rule v)) → (args : List Value) → All P args → OfResult P (of_one rule args)
  of_one-carries rule carries [] all = tt
  of_one-carries rule carries (v ∷ []) all = carries v (All-head P v [] all)
  of_one-carries rule carries (v ∷ w ∷ more) all = tt

  of_two-carries : (rule : Value → Value → Result Value OpFault) → ((v w : Value) → P v → P w → OfResult P (rule v w)) → (args : List Value) → All P args → OfResult P (of_two rule args)
  of_two-carries rule carries [] all = tt
  of_two-carries rule carries (v ∷ []) all = tt
  of_two-carries rule carries (v ∷ w ∷ []) all = carries v w (All-head P v (w ∷ []) all) (All-head P w [] (All-tail P v (w ∷ []) all))
  of_two-carries rule carries (v ∷ w ∷ u ∷ more) all = tt

  of_two_or_three-carries : (rule : Value → Value → Result Value OpFault) (longer : Value → Value → Value → Result Value OpFault)
      → ((v w : Value) → P v → P w → OfResult P (rule v w)) → ((v w u : Value) → P v → P w → P u → OfResult P (longer v w u))
      → (args : List Value) → All P args → OfResult P (of_two_or_three rule longer args)
  of_two_or_three-carries rule longer carries more_carries [] all = tt
  of_two_or_three-carries rule longer carries more_carries (v ∷ []) all = tt
  of_two_or_three-carries rule longer carries more_carries (v ∷ w ∷ []) all = carries v w (All-head P v (w ∷ []) all) (All-head P w [] (All-tail P v (w ∷ []) all))
  of_two_or_three-carries rule longer carries more_carries (v ∷ w ∷ u ∷ []) all =
      let rest = All-tail P v (w ∷ u ∷ []) all in
      more_carries v w u (All-head P v (w ∷ u ∷ []) all) (All-head P w (u ∷ []) rest) (All-head P u [] (All-tail P w (u ∷ []) rest))
  of_two_or_three-carries rule longer carries more_carries (v ∷ w ∷ u ∷ x ∷ more) all = tt

  of_first-carries : (rule : Value → List Value → Result Value OpFault) → ((v : Value) (more : List Value) → P v → All P more → OfResult P (rule v more))
      → (args : List Value) → All P args → OfResult P (of_first rule args)
  of_first-carries rule carries [] all = tt
  of_first-carries rule carries (v ∷ more) all = carries v more (All-head P v more all) (All-tail P v more all)

  -- ---- integers
  on_ints-carries : (rule : List ℤ → Result Value OpFault) → ((ns : List ℤ) → OfResult P (rule ns)) → (args : List Value) → OfResult P (on_ints rule args)
  on_ints-carries rule carries args = by_test P (list_all is_int args) (rule (map int_of args)) (Err fault.WrongType) (carries (map int_of args)) tt

  checked-carries : (n : ℤ) → OfResult P (checked n)
  checked-carries n = by_test P (in_range n) (Ok (value.Int n)) (Err fault.Overflow) (structural.int n) tt

  folded-carries : (step : ℤ → ℤ → ℤ) (so_far : ℤ) (ns : List ℤ) → OfResult P (folded step so_far ns)
  folded-carries step so_far [] = structural.int so_far
  folded-carries step so_far (n ∷ ns) =
      by_test P (in_range (step so_far n)) (folded step (step so_far n) ns) (Err fault.Overflow) (folded-carries step (step so_far n) ns) tt

  difference-carries : (ns : List ℤ) → OfResult P (difference_rule ns)
  difference-carries [] = tt
  difference-carries (n ∷ []) = checked-carries (pos 0 -ℤ n)
  difference-carries (n ∷ m ∷ ns) = folded-carries (λ a b. a -ℤ b) n (m ∷ ns)

  increase-carries : (by : ℤ) (ns : List ℤ) → OfResult P (increase_rule by ns)
  increase-carries by [] = tt
  increase-carries by (n ∷ []) = checked-carries (n +ℤ by)
  increase-carries by (n ∷ m ∷ ns) = tt

  extreme-carries : (choose : ℤ → ℤ → ℤ) (ns : List ℤ) → OfResult P (extreme_rule choose ns)
  extreme-carries choose [] = tt
  extreme-carries choose (n ∷ ns) = structural.int (fold choose n ns)

  division-carries : (divide : ℤ → ℤ → ℤ) (ns : List ℤ) → OfResult P (division_rule divide ns)
  division-carries divide [] = tt
  division-carries divide (a ∷ []) = tt
  division-carries divide (a ∷ b ∷ []) = by_test P (int_eq b (pos 0)) (Err fault.DivideByZero) (checked (divide a b)) tt (checked-carries (divide a b))
  division-carries divide (a ∷ b ∷ c ∷ ns) = tt

  order-carries : (relation : ℤ → ℤ → Bool) (ns : List ℤ) → OfResult P (order_rule relation ns)
  order-carries relation ns = structural.bool (in_order relation ns)

  test-carries : (test : ℤ → Bool) (ns : List ℤ) → OfResult P (test_rule test ns)
  test-carries test [] = tt
  test-carries test (n ∷ []) = structural.bool (test n)
  test-carries test (n ∷ m ∷ ns) = tt

  -- ---- reading
  item_at-carries : (items : List Value) (n : ℤ) → All P items → OfOption P (item_at items n)
  item_at-carries items (pos i) all = got_at P items i all
  item_at-carries items (negsuc i) all = tt

  item_of-carries : (items : List Value) (index : Value) → All P items → OfOption P (item_of items index)
  item_of-carries items index all = option_by_test P (is_int index) (item_at items (int_of index)) None (item_at-carries items (int_of index) all) tt

  find_key-carries : (k : Key) (ps : List (Pair Value)) → OfPairs P ps → OfOption P (find_key k ps)
  find_key-carries k [] all = tt
  find_key-carries k (p ∷ ps) all =
      option_by_test P (is_eq (key_cmp p.key k)) (Some p.value) (find_key k ps) (All-head (λ (p : Pair Value). P p.value) p ps all)
      (find_key-carries k ps (All-tail (λ (p : Pair Value). P p.value) p ps all))

  value_at-carries : (ps : List (Pair Value)) (key : Value) → OfPairs P ps → OfOption P (value_at ps key)
  value_at-carries ps key all = on (key_of key)
    where
      on : (found : Option Key) → OfOption P (option_and_then (λ k. find_key k ps) found)
      on None = tt
      on (Some k) = find_key-carries k ps all

  count-carries : (level : one.Value-F Value) → OfResult P (count_step level)
  count-carries one.Nil = structural.int (pos 0)
  count-carries (one.Vector items) = structural.int (pos (length items))
  count-carries (one.Map pairs) = structural.int (pos (length pairs))
  count-carries _ = tt

  empty-carries : (level : one.Value-F Value) → OfResult P (empty_step level)
  empty-carries one.Nil = structural.bool true
  empty-carries (one.Vector items) = structural.bool (length items == 0)
  empty-carries (one.Map pairs) = structural.bool (length pairs == 0)
  empty-carries _ = tt

  get-carries : (level : one.Value-F Value) (key default : Value) → OfLevel P level → P default → OfResult P (get_step level key default)
  get-carries one.Nil key default all holds = holds
  get-carries (one.Vector items) key default all holds = or_default P (item_of items key) default (item_of-carries items key all) holds
  get-carries (one.Map pairs) key default all holds = or_default P (value_at pairs key) default (value_at-carries pairs key all) holds
  get-carries _ key default all holds = tt

  contains-carries : (level : one.Value-F Value) (key : Value) → OfResult P (contains_step level key)
  contains-carries one.Nil key = structural.bool false
  contains-carries (one.Vector items) key = structural.bool (is_some (item_of items key))
  contains-carries (one.Map pairs) key = structural.bool (is_some (value_at pairs key))
  contains-carries _ key = tt

  item_or-carries : (found : Option Value) (otherwise : Result Value OpFault) → OfOption P found → OfResult P otherwise → OfResult P (item_or found otherwise)
  item_or-carries None otherwise holds good = good
  item_or-carries (Some item) otherwise holds good = holds

  nth-carries : (level : one.Value-F Value) (index : Value) (otherwise : Result Value OpFault) → OfLevel P level → OfResult P otherwise → OfResult P (nth_step level index otherwise)
  nth-carries (one.Vector items) index otherwise all good =
      by_test P (is_int index) (item_or (item_at items (int_of index)) otherwise) (Err fault.WrongType)
      (item_or-carries (item_at items (int_of index)) otherwise (item_at-carries items (int_of index) all) good) tt
  nth-carries _ index otherwise all good = tt

  first-carries : (level : one.Value-F Value) → OfLevel P level → OfResult P (first_step level)
  first-carries one.Nil all = structural.nil
  first-carries (one.Vector items) all = or_default P (slice_get items 0) value.Nil (got_at P items 0 all) structural.nil
  first-carries _ all = tt

  last-carries : (level : one.Value-F Value) → OfLevel P level → OfResult P (last_step level)
  last-carries one.Nil all = structural.nil
  last-carries (one.Vector items) all = or_default P (slice_get items (length items - 1)) value.Nil (got_at P items (length items - 1) all) structural.nil
  last-carries _ all = tt

  rest-carries : (level : one.Value-F Value) → OfLevel P level → OfResult P (rest_step level)
  rest-carries one.Nil all = structural.vector [] (All-nil P)
  rest-carries (one.Vector items) all = structural.vector (drop 1 items) (All-drop P 1 items all)
  rest-carries _ all = tt

  between-carries : (items : List Value) (from to : ℤ) → All P items → OfResult P (between items from to)
  between-carries items (pos i) (pos j) all =
      by_test P (nat_le i j && nat_le j (length items)) (Ok (value.Vector (take (j - i) (drop i items)))) (Err fault.Index)
      (structural.vector (take (j - i) (drop i items)) (All-take P (j - i) (drop i items) (All-drop P i items all))) tt
  between-carries items (pos i) (negsuc j) all = tt
  between-carries items (negsuc i) to all = tt

  subvec-carries : (level : one.Value-F Value) (start : Value) → OfLevel P level → OfResult P (subvec_step level start)
  subvec-carries (one.Vector items) start all =
      by_test P (is_int start) (between items (int_of start) (pos (length items))) (Err fault.WrongType) (between-carries items (int_of start) (pos (length items)) all) tt
  subvec-carries _ start all = tt

  subvec_to-carries : (level : one.Value-F Value) (start end : Value) → OfLevel P level → OfResult P (subvec_to_step level start end)
  subvec_to-carries (one.Vector items) start end all =
      by_test P (is_int start && is_int end) (between items (int_of start) (int_of end)) (Err fault.WrongType) (between-carries items (int_of start) (int_of end) all) tt
  subvec_to-carries _ start end all = tt

  key_value-carries : (k : Key) → P (key_value k)
  key_value-carries (key.Bool b) = structural.bool b
  key_value-carries (key.Int n) = structural.int n
  key_value-carries (key.Kw s) = structural.kw s
  key_value-carries (key.Str s) = structural.str s

  keys-carries : (level : one.Value-F Value) → OfResult P (keys_step level)
  keys-carries one.Nil = structural.vector [] (All-nil P)
  keys-carries (one.Map pairs) = structural.vector (map (λ p. key_value p.key) pairs) (All-map P (λ (p : Pair Value). key_value p.key) pairs (λ k d lt. key_value-carries _))
  keys-carries _ = tt

  vals-carries : (level : one.Value-F Value) → OfLevel P level → OfResult P (vals_step level)
  vals-carries one.Nil all = structural.vector [] (All-nil P)
  vals-carries (one.Map pairs) all = structural.vector (map (λ p. p.value) pairs) (All-map P (λ (p : Pair Value). p.value) pairs all)
  vals-carries _ all = tt

  -- ---- making
  conj-carries : (level : one.Value-F Value) (more : List Value) → OfLevel P level → All P more → OfResult P (conj_step level more)
  conj-carries (one.Vector items) more all added = structural.vector (items ++ more) (All-append P items more all added)
  conj-carries _ more all added = tt

  append-carries : (items : List Value) (level : one.Value-F Value) → All P items → OfLevel P level → OfResult P (append_step items level)
  append-carries items (one.Vector more) all added = structural.vector (items ++ more) (All-append P items more all added)
  append-carries items _ all added = tt

  into-carries : (level more : one.Value-F Value) → OfLevel P level → OfLevel P more → OfResult P (into_step level more)
  into-carries (one.Vector items) more all added = append-carries items more all added
  into-carries _ more all added = tt

  put_rule-carries : (ps : List (Pair Value)) (entries : List (Value × Value)) → OfPairs P ps → OfEntries P entries → OfResult P (put_rule ps entries)
  put_rule-carries ps entries all holds =
      by_test P (list_all (λ (e : Value × Value). is_key e.0) entries) (Ok (value.Map (fold put_entry ps entries))) (Err fault.WrongType)
      (structural.map (fold put_entry ps entries) (put_entries-carries P ps entries all holds)) tt

  vector_or_index-carries : (made : Option (List Value)) → OfOption (All P) made → OfResult P (vector_or_index made)
  vector_or_index-carries None all = tt
  vector_or_index-carries (Some items) all = structural.vector items all

  place_rule-carries : (items : List Value) (entries : List (Value × Value)) → All P items → OfEntries P entries → OfResult P (place_rule items entries)
  place_rule-carries items entries all holds =
      by_test P (list_all (λ (e : Value × Value). is_int e.0) entries) (vector_or_index (fold place_entry (Some items) entries)) (Err fault.WrongType)
      (vector_or_index-carries (fold place_entry (Some items) entries) (place_entries-carries P (Some items) entries all holds)) tt

  assoc-carries : (level : one.Value-F Value) (entries : List (Value × Value)) → OfLevel P level → OfEntries P entries → OfResult P (assoc_step level entries)
  assoc-carries one.Nil entries all holds = put_rule-carries [] entries (All-nil (λ (p : Pair Value). P p.value)) holds
  assoc-carries (one.Map pairs) entries all holds = put_rule-carries pairs entries all holds
  assoc-carries (one.Vector items) entries all holds = place_rule-carries items entries all holds
  assoc-carries _ entries all holds = tt

  dissoc-carries : (level : one.Value-F Value) (keys : List Value) → OfLevel P level → OfResult P (dissoc_step level keys)
  dissoc-carries one.Nil keys all = structural.nil
  dissoc-carries (one.Map pairs) keys all = structural.map (fold drop_key pairs keys) (drop_keys-carries P pairs keys all)
  dissoc-carries _ keys all = tt

  -- ---- all primitives
  abbrev opened : (v : Value) → P v → OfLevel P (out-Value v)
  opened v holds = of_level P structural v holds

  -- a test of the one argument
  one_test : (test : Value → Bool) (args : List Value) → All P args → OfResult P (of_one (λ v. Ok (value.Bool (test v))) args)
  one_test test args all = of_one-carries (λ v. Ok (value.Bool (test v))) (λ v holds. structural.bool (test v)) args all

  pub rule-carries : (op : Op) (args : List Value) → All P args → OfResult P (rule_of op args)
  rule-carries op.Add args all = on_ints-carries sum_rule (λ ns. folded-carries (λ a b. a +ℤ b) (pos 0) ns) args
  rule-carries op.Multiply args all = on_ints-carries product_rule (λ ns. folded-carries (λ a b. a *ℤ b) (pos 1) ns) args
  rule-carries op.Subtract args all = on_ints-carries difference_rule difference-carries args
  rule-carries op.Inc args all = on_ints-carries (increase_rule (pos 1)) (increase-carries (pos 1)) args
  rule-carries op.Dec args all = on_ints-carries (increase_rule (negsuc 0)) (increase-carries (negsuc 0)) args
  rule-carries op.Max args all = on_ints-carries (extreme_rule int_max) (extreme-carries int_max) args
  rule-carries op.Min args all = on_ints-carries (extreme_rule int_min) (extreme-carries int_min) args
  rule-carries op.Quot args all = on_ints-carries (division_rule int_div) (division-carries int_div) args
  rule-carries op.Rem args all = on_ints-carries (division_rule int_rem) (division-carries int_rem) args
  rule-carries op.Mod args all = on_ints-carries (division_rule int_mod) (division-carries int_mod) args
  rule-carries op.Below args all = on_ints-carries (order_rule int_lt) (order-carries int_lt) args
  rule-carries op.AtMost args all = on_ints-carries (order_rule int_le) (order-carries int_le) args
  rule-carries op.Above args all = on_ints-carries (order_rule (λ a b. int_lt b a)) (order-carries (λ a b. int_lt b a)) args
  rule-carries op.AtLeast args all = on_ints-carries (order_rule (λ a b. int_le b a)) (order-carries (λ a b. int_le b a)) args
  rule-carries op.Same args all = structural.bool (all_same args)
  rule-carries op.NotSame args all = structural.bool (not (all_same args))
  rule-carries op.Not args all = one_test is_false args all
  rule-carries op.IsZero args all = on_ints-carries (test_rule (λ n. int_eq n (pos 0))) (test-carries (λ n. int_eq n (pos 0))) args
  rule-carries op.IsPositive args all = on_ints-carries (test_rule (λ n. int_lt (pos 0) n)) (test-carries (λ n. int_lt (pos 0) n)) args
  rule-carries op.IsNegative args all = on_ints-carries (test_rule (λ n. int_lt n (pos 0))) (test-carries (λ n. int_lt n (pos 0))) args
  rule-carries op.IsNil args all = one_test is_nil args all
  rule-carries op.IsSome args all = one_test (λ v. not (is_nil v)) args all
  rule-carries op.IsInt args all = one_test is_int args all
  rule-carries op.IsString args all = one_test is_string args all
  rule-carries op.IsKeyword args all = one_test is_keyword args all
  rule-carries op.IsBoolean args all = one_test is_bool args all
  rule-carries op.IsVector args all = one_test is_vector args all
  rule-carries op.IsMap args all = one_test is_map args all
  rule-carries op.Vector args all = structural.vector args all
  rule-carries op.Count args all = of_one-carries (λ v. count_step (out-Value v)) (λ v holds. count-carries (out-Value v)) args all
  rule-carries op.Get args all =
      of_two_or_three-carries (λ c key. get_step (out-Value c) key value.Nil) (λ c key default. get_step (out-Value c) key default)
      (λ c key good holds. get-carries (out-Value c) key value.Nil (opened c good) structural.nil)
      (λ c key default good holds other. get-carries (out-Value c) key default (opened c good) other) args all
  rule-carries op.Nth args all =
      of_two_or_three-carries (λ c index. nth_step (out-Value c) index (Err fault.Index)) (λ c index default. nth_step (out-Value c) index (Ok default))
      (λ c index good holds. nth-carries (out-Value c) index (Err fault.Index) (opened c good) tt)
      (λ c index default good holds other. nth-carries (out-Value c) index (Ok default) (opened c good) other) args all
  rule-carries op.Conj args all = of_first-carries (λ c more. conj_step (out-Value c) more) (λ c more good rest. conj-carries (out-Value c) more (opened c good) rest) args all
  rule-carries op.Assoc args all =
      of_first-carries (λ c more. assoc_step (out-Value c) (paired more)) (λ c more good rest. assoc-carries (out-Value c) (paired more) (opened c good) (paired-carries P more rest)) args all
  rule-carries op.Dissoc args all = of_first-carries (λ c keys. dissoc_step (out-Value c) keys) (λ c keys good rest. dissoc-carries (out-Value c) keys (opened c good)) args all
  rule-carries op.Contains args all = of_two-carries (λ c key. contains_step (out-Value c) key) (λ c key good holds. contains-carries (out-Value c) key) args all
  rule-carries op.Keys args all = of_one-carries (λ c. keys_step (out-Value c)) (λ c good. keys-carries (out-Value c)) args all
  rule-carries op.Vals args all = of_one-carries (λ c. vals_step (out-Value c)) (λ c good. vals-carries (out-Value c) (opened c good)) args all
  rule-carries op.First args all = of_one-carries (λ c. first_step (out-Value c)) (λ c good. first-carries (out-Value c) (opened c good)) args all
  rule-carries op.Last args all = of_one-carries (λ c. last_step (out-Value c)) (λ c good. last-carries (out-Value c) (opened c good)) args all
  rule-carries op.Rest args all = of_one-carries (λ c. rest_step (out-Value c)) (λ c good. rest-carries (out-Value c) (opened c good)) args all
  rule-carries op.IsEmpty args all = of_one-carries (λ c. empty_step (out-Value c)) (λ c good. empty-carries (out-Value c)) args all
  rule-carries op.Subvec args all =
      of_two_or_three-carries (λ c start. subvec_step (out-Value c) start) (λ c start end. subvec_to_step (out-Value c) start end)
      (λ c start good holds. subvec-carries (out-Value c) start (opened c good)) (λ c start end good holds other. subvec_to-carries (out-Value c) start end (opened c good)) args all
  rule-carries op.Into args all = of_two-carries (λ a b. into_step (out-Value a) (out-Value b)) (λ a b good holds. into-carries (out-Value a) (out-Value b) (opened a good) (opened b holds)) args all
  rule-carries op.Str args all = structural.str (str_text args)

  limited-carries : (result : Result Value OpFault) → OfResult P result → OfResult P (limited result)
  limited-carries (Ok v) holds = by_test P (nat_le (depth_of v) 200) (Ok v) (Err fault.TooDeep) holds tt
  limited-carries (Err fault) holds = tt

  -- a primitive's value
  pub applied-carries : (op : Op) (args : List Value) → All P args → OfResult P (apply_of op args)
  applied-carries op args all = limited-carries (rule_of op args) (rule-carries op args all)

  -- the value of a map that is written out
  pub mapped-carries : (values : List Value) → All P values → OfResult P (limited (put_rule [] (paired values)))
  mapped-carries values all =
      limited-carries (put_rule [] (paired values)) (put_rule-carries [] (paired values) (All-nil (λ (p : Pair Value). P p.value)) (paired-carries P values all))

-- what a primitive gives is as its arguments are
pub apply-carries : (P : Value → Type 0) → IsStructural P → (op : Op) (args : List Value) (v : Value) → All P args → apply_of op args ≡ Ok v → P v
apply-carries P structural op args v all is = subst (OfResult P) is (applied-carries P structural op args all)

-- a map that is written out is as its values are
pub map-carries : (P : Value → Type 0) → IsStructural P → (values : List Value) (v : Value) → All P values → limited (put_rule [] (paired values)) ≡ Ok v → P v
map-carries P structural values v all is = subst (OfResult P) is (mapped-carries P structural values all)
