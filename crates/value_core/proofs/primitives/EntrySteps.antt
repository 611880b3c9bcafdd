-- Arguments by twos.
use Rattle.std.proofs.Common.{◌≡◌, ℕ, Bool, true, false, cond, ◌&&◌, Ok, Err, suc, ◌+◌, ◌*◌, ◌/◌, ◌<◌, ◌≤◌, List, [], ◌∷◌, length, drop, get_or, fold, Some, None, refl, sym, ap, ◌∙◌, arith, drop-cons, length-drop}
use Rattle.std.specs.List.{list_all}
use Rattle.value_core.specs.declared.value.Value.{Value}
use Rattle.std.specs.Option.{option_map_or}
use Rattle.value_core.specs.declared.key.Key.{Key}
use Rattle.value_core.specs.declared.pair.Pair.{Pair}
use Rattle.value_core.specs.declared.value.Value.TheVariants.{Map, Vector}
use Rattle.value_core.specs.Pairs.{put_key}
use Rattle.value_core.specs.ToKey.{key_of}
use Rattle.value_core.specs.declared.op_fault.OpFault.TheVariants.{WrongType, Index}
use Rattle.value_core.specs.primitives.Kinds.{is_int, int_of}
use Rattle.value_core.specs.primitives.Parts.{paired, is_key, put_entry, put_rule, placed, place_entry, place_rule, vector_or_index}

pub paired_step : (xs : List Value) (i : ℕ) (d e : Value) → 2 * i + 1 < length xs → paired (drop (2 * i) xs) ≡ (get_or xs (2 * i) d, get_or xs (2 * i + 1) e) ∷ paired (drop (2 * (i + 1)) xs)
paired_step xs i d e lt =
    let here = drop-cons xs (2 * i) d (omega arith) in
    let next = drop-cons xs (suc (2 * i)) e (omega arith) in
    let one : 2 * i + 1 ≡ suc (2 * i) = omega arith in
    let two : 2 * (i + 1) ≡ suc (suc (2 * i)) = omega arith in
    rw (one, two, here, next) refl

pub paired_end : (xs : List Value) (i : ℕ) → length xs / 2 ≤ i → paired (drop (2 * i) xs) ≡ []
paired_end xs i le = few (drop (2 * i) xs) (simp length-drop (omega arith))
  where
    few : (ys : List Value) → length ys ≤ 1 → paired ys ≡ []
    few [] l = refl
    few (y ∷ []) l = refl
    few (y ∷ z ∷ ys) l = absurd (omega arith)

-- once an index was out of range, nothing is placed
pub placed_none : (entries : List (Value × Value)) → fold place_entry None entries ≡ None
placed_none [] = refl
placed_none (e ∷ entries) = placed_none entries

-- what stands at an even place, and behind it
pub entry_at : (xs : List Value) (i : ℕ) (x y : Value) → i < length xs / 2 → x ≡ get_or xs (2 * i) x → y ≡ get_or xs (2 * i + 1) y → paired (drop (2 * i) xs) ≡ (x, y) ∷ paired (drop (2 * (i + 1)) xs)
entry_at xs i x y lt at_x at_y = paired_step xs i x y (omega arith) ∙ (λ j. (sym at_x j, sym at_y j) ∷ paired (drop (2 * (i + 1)) xs))

-- the test of the first of each two
pub test_at : (test : Value → Bool) (xs : List Value) (i : ℕ) (x : Value) → i < length xs / 2 → x ≡ get_or xs (2 * i) x
    → list_all (λ e. test e.0) (paired (drop (2 * i) xs)) ≡ (test x && list_all (λ e. test e.0) (paired (drop (2 * (i + 1)) xs)))
test_at test xs i x lt at_x =
    ap (list_all (λ (e : Value × Value). test e.0)) (paired_step xs i x x (omega arith)) ∙ ap (λ v. test v && list_all (λ (e : Value × Value). test e.0) (paired (drop (2 * (i + 1)) xs))) (sym at_x)

abbrev first_passes : (Value → Bool) → List (Value × Value) → Bool
first_passes test entries = list_all (λ e. test e.0) entries

pub test_passed : (test : Value → Bool) (xs : List Value) (i : ℕ) (x : Value) (all : Bool) → i < length xs / 2 → x ≡ get_or xs (2 * i) x → test x ≡ true
    → first_passes test (paired (drop (2 * i) xs)) ≡ all → first_passes test (paired (drop (2 * (i + 1)) xs)) ≡ all
test_passed test xs i x all lt at_x pass so_far = sym (ap (λ b. b && first_passes test (paired (drop (2 * (i + 1)) xs))) pass) ∙ sym (test_at test xs i x lt at_x) ∙ so_far

pub test_failed : (test : Value → Bool) (xs : List Value) (i : ℕ) (x : Value) (all : Bool) → i < length xs / 2 → x ≡ get_or xs (2 * i) x → test x ≡ false
    → first_passes test (paired (drop (2 * i) xs)) ≡ all → false ≡ all
test_failed test xs i x all lt at_x fail so_far = sym (ap (λ b. b && first_passes test (paired (drop (2 * (i + 1)) xs))) fail) ∙ sym (test_at test xs i x lt at_x) ∙ so_far

pub test_done : (test : Value → Bool) (xs : List Value) (i : ℕ) (all : Bool) → length xs / 2 ≤ i → first_passes test (paired (drop (2 * i) xs)) ≡ all → true ≡ all
test_done test xs i all le so_far = sym (ap (first_passes test) (paired_end xs i le)) ∙ so_far

-- ---- a value is put at a key
pub put_more : (xs : List Value) (i : ℕ) (x y z : Value) (k : Key) (pairs new all : List (Pair Value)) → i < length xs / 2 → x ≡ get_or xs (2 * i) x → y ≡ get_or xs (2 * i + 1) y
    → Some k ≡ key_of x → z ≡ y → new ≡ put_key k z pairs
    → fold put_entry pairs (paired (drop (2 * i) xs)) ≡ all → fold put_entry new (paired (drop (2 * (i + 1)) xs)) ≡ all
put_more xs i x y z k pairs new all lt at_x at_y key copy step so_far =
    let rest = paired (drop (2 * (i + 1)) xs) in
    let entry : new ≡ put_entry pairs (x, y) = step ∙ ap (λ v. put_key k v pairs) copy ∙ ap (λ o. option_map_or (λ q. put_key q y pairs) o pairs) key in
    ap (λ p. fold put_entry p rest) entry ∙ sym (ap (fold put_entry pairs) (entry_at xs i x y lt at_x at_y)) ∙ so_far

pub put_done : (xs : List Value) (i : ℕ) (pairs first : List (Pair Value)) → length xs / 2 ≤ i → first_passes is_key (paired (drop (2 * i) xs)) ≡ first_passes is_key (paired xs)
    → fold put_entry pairs (paired (drop (2 * i) xs)) ≡ fold put_entry first (paired xs) → Ok (Map pairs) ≡ put_rule first (paired xs)
put_done xs i pairs first le keys so_far =
    let all = test_done is_key xs i _ le keys in
    let whole : pairs ≡ fold put_entry first (paired xs) = sym (ap (fold put_entry pairs) (paired_end xs i le)) ∙ so_far in
    ap (λ p. Ok (Map p)) whole ∙ ap (λ b. cond b (Ok (Map (fold put_entry first (paired xs)))) (Err WrongType)) all

-- ---- a value is placed at an index
pub place_done : (xs : List Value) (i : ℕ) (items first : List Value) → length xs / 2 ≤ i → true ≡ first_passes is_int (paired xs)
    → fold place_entry (Some items) (paired (drop (2 * i) xs)) ≡ fold place_entry (Some first) (paired xs) → Ok (Vector items) ≡ place_rule first (paired xs)
place_done xs i items first le ints so_far =
    let whole : Some items ≡ fold place_entry (Some first) (paired xs) = sym (ap (fold place_entry (Some items)) (paired_end xs i le)) ∙ so_far in
    ap vector_or_index whole ∙ ap (λ b. cond b (vector_or_index (fold place_entry (Some first) (paired xs))) (Err WrongType)) ints

pub place_stuck : (xs : List Value) (i : ℕ) (x y : Value) (items first : List Value) → i < length xs / 2 → x ≡ get_or xs (2 * i) x → y ≡ get_or xs (2 * i + 1) y → true ≡ first_passes is_int (paired xs)
    → placed items (int_of x) y ≡ None
    → fold place_entry (Some items) (paired (drop (2 * i) xs)) ≡ fold place_entry (Some first) (paired xs) → Err Index ≡ place_rule first (paired xs)
place_stuck xs i x y items first lt at_x at_y ints none so_far =
    let rest = paired (drop (2 * (i + 1)) xs) in
    let whole : None ≡ fold place_entry (Some first) (paired xs) = sym (placed_none rest) ∙ ap (λ o. fold place_entry o rest) (sym none) ∙ sym (ap (fold place_entry (Some items)) (entry_at xs i x y lt at_x at_y)) ∙ so_far in
    ap vector_or_index whole ∙ ap (λ b. cond b (vector_or_index (fold place_entry (Some first) (paired xs))) (Err WrongType)) ints
