-- Lists in full pieces.
use Rattle.std.proofs.Common.{◌≡◌, ◌∙◌, ℕ, zero, suc, ◌+◌, ◌*◌, ◌-◌, ◌/◌, ◌%◌, ◌<◌, ◌≤◌, List, [], ◌∷◌, ◌++◌, length, length-append, append_assoc, refl, sym, ap, subst, arith}
use Rattle.std.proofs.lemmas.List.{append-nil, drop_at, drop-append-le, drop-drop, length-drop, length-set, set-append_left, set-get_or}
use Rattle.std.proofs.lemmas.Nat.{div-add-mod', mod_below}
use Rattle.std.proofs.lemmas.Option.{none-some, same_Some, get_or_from_slice_get, slice_get-get_or, slice_get_past, slice_get_read, slice_get_within, unwrap_or-slice_get}
use Rattle.std.specs.Borrow.{Bor}
use Rattle.std.specs.Prelude.{Option, None, Some, drop, slice_index_or, slice_set, OnErr, OnOk}
use Rattle.std.specs.Option.{option_copied, unwrap_or}
use Rattle.std.specs.declared.result.Result.{Result}
use Rattle.std.specs.declared.result.Result.TheVariants.{Ok, Err}
use Rattle.std.specs.List.{ItemBy, slice_get}
use Rattle.shared_vector.specs.Pieces.{AreFull, ArePieces, joined, set_within}

-- what a look-up by index gives
pub looked_up : {X : Type 0} (xs : List X) (i : ℕ) (r : Option (Bor X)) → ItemBy (λ (x : Bor X). x.now) xs i i r → option_copied r ≡ slice_get xs i
looked_up xs i None there = sym (slice_get_past xs i there.3)
looked_up xs i (Some x) there = sym (slice_get_read xs (length xs) i x.now refl there.3.0 there.1)

-- where nothing is found, the index is past the end
pub past_of : {X : Type 0} (xs : List X) (i : ℕ) → slice_get xs i ≡ None → length xs ≤ i
past_of [] i none = omega arith
past_of (x ∷ xs) zero none = absurd (none-some x (sym none))
past_of (x ∷ xs) (suc i) none = let more = past_of xs i none in omega (arith, more)

-- ---- items of two lists in a row
module _ {X : Type 0} where
  pub get-first : (xs ys : List X) (i : ℕ) → i < length xs → slice_get (xs ++ ys) i ≡ slice_get xs i
  get-first [] ys i less = absurd (omega (arith, less))
  get-first (x ∷ xs) ys zero less = refl
  get-first (x ∷ xs) ys (suc i) less = get-first xs ys i (omega (arith, less))

  pub get-second : (xs ys : List X) (i j : ℕ) → i ≡ length xs + j → slice_get (xs ++ ys) i ≡ slice_get ys j
  get-second [] ys i j e = ap (slice_get ys) (let same : i ≡ j = omega (arith, e) in same)
  get-second (x ∷ xs) ys zero j e = absurd (omega (arith, e))
  get-second (x ∷ xs) ys (suc i) j e = get-second xs ys i j (omega (arith, e))

  pub set-second : (xs ys : List X) (i j : ℕ) (y : X) → i ≡ length xs + j → slice_set (xs ++ ys) i y ≡ xs ++ slice_set ys j y
  set-second [] ys i j y e = ap (λ n. slice_set ys n y) (let same : i ≡ j = omega (arith, e) in same)
  set-second (x ∷ xs) ys zero j y e = absurd (omega (arith, e))
  set-second (x ∷ xs) ys (suc i) j y e = ap (λ l. x ∷ l) (set-second xs ys i j y (omega (arith, e)))

  pub drop-second : (xs ys : List X) (i j : ℕ) → i ≡ length xs + j → drop i (xs ++ ys) ≡ drop j ys
  drop-second [] ys i j e = ap (λ n. drop n ys) (let same : i ≡ j = omega (arith, e) in same)
  drop-second (x ∷ xs) ys zero j e = absurd (omega (arith, e))
  drop-second (x ∷ xs) ys (suc i) j e = drop-second xs ys i j (omega (arith, e))

  -- what is at the front of the rest stands there, and then comes the rest behind it
  pub front_of : (w d t : List X) (i : ℕ) → drop i w ≡ d ++ t → drop i w ≡ d ++ drop (i + length d) w
  front_of w d t i e = e ∙ ap (λ l. d ++ l) (sym (sym (drop-drop (length d) i w) ∙ ap (drop (length d)) e ∙ drop_at d t (length d) refl))

  -- an item in its own place
  pub set_same : (xs : List X) (i : ℕ) (x : X) → Some x ≡ slice_get xs i → slice_set xs i x ≡ xs
  set_same xs i x at = ap (slice_set xs i) (sym (get_or_from_slice_get xs i x x (sym at))) ∙ set-get_or xs i x

-- what holds of each of two lists holds of the one that it is
pub either_way : {U V X : Type 0} (r : Result U V) (P : X → Type 0) (n a b : X) → OnOk r (n ≡ a) → OnErr r (n ≡ b) → P a → P b → P n
either_way (Ok u) P n a b ok err pa pb = subst P (sym ok) pa
either_way (Err v) P n a b ok err pa pb = subst P (sym err) pb

-- ---- how long pieces are
module _ {X : Type 0} where
  pub length-joined : (ps : List (List X)) → AreFull ps → length (joined ps) ≡ length ps * 32
  length-joined [] full = refl
  length-joined (p ∷ ps) full = length-append p (joined ps) ∙ (let more = length-joined ps full.1 in let one = full.0 in omega (arith, more, one))

  pub length-pieces : (ps : List (List X)) (rest : List X) → AreFull ps → length (joined ps ++ rest) ≡ length ps * 32 + length rest
  length-pieces ps rest full = length-append (joined ps) rest ∙ ap (λ n. n + length rest) (length-joined ps full)

  -- ---- a piece more
  pub joined-push : (ps : List (List X)) (p : List X) → joined (ps ++ p ∷ []) ≡ joined ps ++ p
  joined-push [] p = append-nil p
  joined-push (q ∷ ps) p = ap (λ l. q ++ l) (joined-push ps p) ∙ sym (append_assoc q (joined ps) p)

  pub full-push : (ps : List (List X)) (p : List X) → AreFull ps → length p ≡ 32 → AreFull (ps ++ p ∷ [])
  full-push [] p full is = (is, tt)
  full-push (q ∷ ps) p full is = (full.0, full-push ps p full.1 is)

  pub length-piece : (ps : List (List X)) (b : ℕ) → AreFull ps → b < length ps → length (slice_index_or ps b []) ≡ 32
  length-piece [] b full less = absurd (omega (arith, less))
  length-piece (q ∷ qs) zero full less = full.0
  length-piece (q ∷ qs) (suc b) full less = length-piece qs b full.1 (omega (arith, less))

  pub full-set : (ps : List (List X)) (b k : ℕ) (x : X) → AreFull ps → AreFull (set_within ps b k x)
  full-set [] b k x full = tt
  full-set (q ∷ qs) zero k x full = (length-set q k x ∙ full.0, full.1)
  full-set (q ∷ qs) (suc b) k x full = (full.0, full-set qs b k x full.1)

  -- ---- the item at a place of a piece
  at_place : (ps : List (List X)) (rest : List X) (b k i : ℕ) (p : List X) → AreFull ps → slice_get ps b ≡ Some p → k < 32 → i ≡ b * 32 + k → slice_get (joined ps ++ rest) i ≡ slice_get p k
  at_place [] rest b k i p full is less e = absurd (none-some p is)
  at_place (q ∷ qs) rest zero k i p full is less e =
      ap (λ l. slice_get l i) (append_assoc q (joined qs) rest) ∙ get-first q (joined qs ++ rest) i (let long = full.0 in omega (arith, long, less, e))
      ∙ ap (slice_get q) (let same : i ≡ k = omega (arith, e) in same) ∙ ap (λ l. slice_get l k) (same_Some q p is)
  at_place (q ∷ qs) rest (suc b) k i p full is less e =
      ap (λ l. slice_get l i) (append_assoc q (joined qs) rest) ∙ get-second q (joined qs ++ rest) i (b * 32 + k) (let long = full.0 in omega (arith, long, e))
      ∙ at_place qs rest b k (b * 32 + k) p full.1 is less refl

  pub get-piece : (ps : List (List X)) (rest : List X) (i : ℕ) (p : List X) → AreFull ps → slice_get ps (i / 32) ≡ Some p → slice_get (joined ps ++ rest) i ≡ slice_get p (i % 32)
  get-piece ps rest i p full is = at_place ps rest (i / 32) (i % 32) i p full is (mod_below i 32 (omega arith)) (sym (div-add-mod' i 32))

  -- behind the pieces
  pub get-behind : (ps : List (List X)) (rest : List X) (i : ℕ) → AreFull ps → length ps * 32 ≤ i → slice_get (joined ps ++ rest) i ≡ slice_get rest (i - length ps * 32)
  get-behind ps rest i full from =
      let long = length-joined ps full in get-second (joined ps) rest i (i - length ps * 32) (omega (arith, long, from))

  -- where there is no piece, the index is behind them
  pub no_piece : (ps : List (List X)) (i : ℕ) → slice_get ps (i / 32) ≡ None → length ps * 32 ≤ i
  no_piece ps i none = let past = past_of ps (i / 32) none in let whole = div-add-mod' i 32 in omega (arith, past, whole)

  -- ---- the same by a default
  pub index-piece : (ps : List (List X)) (rest : List X) (i : ℕ) (d : X) → AreFull ps → i / 32 < length ps → slice_index_or (joined ps ++ rest) i d ≡ slice_index_or (slice_index_or ps (i / 32) []) (i % 32) d
  index-piece ps rest i d full less =
      let p : List X = slice_index_or ps (i / 32) [] in
      sym (unwrap_or-slice_get (joined ps ++ rest) i d) ∙ ap (λ o. unwrap_or o d) (get-piece ps rest i p full (slice_get-get_or ps (i / 32) [] less)) ∙ unwrap_or-slice_get p (i % 32) d

  pub index-behind : (ps : List (List X)) (rest : List X) (i : ℕ) (d : X) → AreFull ps → length ps * 32 ≤ i → slice_index_or (joined ps ++ rest) i d ≡ slice_index_or rest (i - length ps * 32) d
  index-behind ps rest i d full from =
      sym (unwrap_or-slice_get (joined ps ++ rest) i d) ∙ ap (λ o. unwrap_or o d) (get-behind ps rest i full from) ∙ unwrap_or-slice_get rest (i - length ps * 32) d

  -- ---- another item at a place of a piece
  set_place : (ps : List (List X)) (rest : List X) (b k i : ℕ) (x : X) → AreFull ps → b < length ps → k < 32 → i ≡ b * 32 + k → joined (set_within ps b k x) ++ rest ≡ slice_set (joined ps ++ rest) i x
  set_place [] rest b k i x full in_range less e = absurd (omega (arith, in_range))
  set_place (q ∷ qs) rest zero k i x full in_range less e =
      append_assoc (slice_set q k x) (joined qs) rest ∙ sym (set-append_left q (joined qs ++ rest) k x (let long = full.0 in omega (arith, long, less)))
      ∙ ap (λ l. slice_set l k x) (sym (append_assoc q (joined qs) rest)) ∙ ap (λ n. slice_set (joined (q ∷ qs) ++ rest) n x) (let same : k ≡ i = omega (arith, e) in same)
  set_place (q ∷ qs) rest (suc b) k i x full in_range less e =
      append_assoc q (joined (set_within qs b k x)) rest ∙ ap (λ l. q ++ l) (set_place qs rest b k (b * 32 + k) x full.1 (omega (arith, in_range)) less refl)
      ∙ sym (set-second q (joined qs ++ rest) i (b * 32 + k) x (let long = full.0 in omega (arith, long, e))) ∙ ap (λ l. slice_set l i x) (sym (append_assoc q (joined qs) rest))

  pub set-piece : (ps : List (List X)) (rest : List X) (i : ℕ) (x : X) → AreFull ps → i / 32 < length ps → joined (set_within ps (i / 32) (i % 32) x) ++ rest ≡ slice_set (joined ps ++ rest) i x
  set-piece ps rest i x full in_range = set_place ps rest (i / 32) (i % 32) i x full in_range (mod_below i 32 (omega arith)) (sym (div-add-mod' i 32))

  pub set-behind : (ps : List (List X)) (rest : List X) (i : ℕ) (x : X) → AreFull ps → length ps * 32 ≤ i → joined ps ++ slice_set rest (i - length ps * 32) x ≡ slice_set (joined ps ++ rest) i x
  set-behind ps rest i x full from = let long = length-joined ps full in sym (set-second (joined ps) rest i (i - length ps * 32) x (omega (arith, long, from)))

  -- ---- the items from a place on
  from_place : (ps : List (List X)) (rest : List X) (b k i : ℕ) (p : List X) → AreFull ps → slice_get ps b ≡ Some p → k < 32 → i ≡ b * 32 + k → (t : List X) × (drop i (joined ps ++ rest) ≡ drop k p ++ t)
  from_place [] rest b k i p full is less e = absurd (none-some p is)
  from_place (q ∷ qs) rest zero k i p full is less e = (
    joined qs ++ rest,
    ap (drop i) (append_assoc q (joined qs) rest)
        ∙ ap (λ n. drop n (q ++ (joined qs ++ rest))) (let same : i ≡ k = omega (arith, e) in same) ∙ drop-append-le k q (joined qs ++ rest) (let long = full.0 in omega (arith, long, less))
        ∙ ap (λ l. drop k l ++ (joined qs ++ rest)) (same_Some q p is),
  )
  from_place (q ∷ qs) rest (suc b) k i p full is less e =
      let later : (t : List X) × (drop (b * 32 + k) (joined qs ++ rest) ≡ drop k p ++ t) = from_place qs rest b k (b * 32 + k) p full.1 is less refl in
      (later.0, ap (drop i) (append_assoc q (joined qs) rest) ∙ drop-second q (joined qs ++ rest) i (b * 32 + k) (let long = full.0 in omega (arith, long, e)) ∙ later.1)

  -- those of the piece come first
  pub drop-piece : (ps : List (List X)) (rest : List X) (i : ℕ) (p : List X) → AreFull ps → slice_get ps (i / 32) ≡ Some p
      → drop i (joined ps ++ rest) ≡ drop (i % 32) p ++ drop (i + length (drop (i % 32) p)) (joined ps ++ rest)
  drop-piece ps rest i p full is =
      let here : (t : List X) × (drop i (joined ps ++ rest) ≡ drop (i % 32) p ++ t) = from_place ps rest (i / 32) (i % 32) i p full is (mod_below i 32 (omega arith)) (sym (div-add-mod' i 32)) in
      front_of (joined ps ++ rest) (drop (i % 32) p) here.0 i here.1

  -- and there are some
  pub length-from : (ps : List (List X)) (i : ℕ) (p : List X) → AreFull ps → slice_get ps (i / 32) ≡ Some p → length (drop (i % 32) p) ≡ 32 - i % 32
  length-from ps i p full is = length-drop (i % 32) p ∙ ap (λ n. n - i % 32) (whole ps (i / 32) full is)
    where
      whole : (qs : List (List X)) (b : ℕ) → AreFull qs → slice_get qs b ≡ Some p → length p ≡ 32
      whole [] b full is = absurd (none-some p is)
      whole (q ∷ qs) zero full is = ap length (sym (same_Some q p is)) ∙ full.0
      whole (q ∷ qs) (suc b) full is = whole qs b full.1 is

  pub drop-behind : (ps : List (List X)) (rest : List X) (i : ℕ) → AreFull ps → length ps * 32 ≤ i
      → drop i (joined ps ++ rest) ≡ drop (i - length ps * 32) rest ++ drop (i + length (drop (i - length ps * 32) rest)) (joined ps ++ rest)
  drop-behind ps rest i full from =
      let long = length-joined ps full in
      let k : ℕ = i - length ps * 32 in
      front_of (joined ps ++ rest) (drop k rest) [] i (drop-second (joined ps) rest i k (omega (arith, long, from)) ∙ sym (append-nil (drop k rest)))

-- ---- an index of a list of pieces and what stands behind them
-- behind so many pieces, where 32 goes into the index so often
pub past_pieces : (i n : ℕ) → n ≤ i / 32 → n * 32 ≤ i
past_pieces i n past = let whole = div-add-mod' i 32 in omega (arith, past, whole)

module _ {X : Type 0} where
  pub in_rest : (ps : List (List X)) (rest : List X) (i : ℕ) → AreFull ps → length ps ≤ i / 32 → i < length (joined ps ++ rest) → i - length ps * 32 < length rest
  in_rest ps rest i full past less = let long = length-pieces ps rest full in let from = past_pieces i (length ps) past in omega (arith, long, from, less)

  -- an index in a piece
  pub in_pieces : (ps : List (List X)) (i n : ℕ) (p : List X) → slice_get ps (i / 32) ≡ Some p → length ps ≤ n → i < n * 32
  in_pieces ps i n p is few =
      let within : i / 32 < length ps = slice_get_within ps (i / 32) p is in
      let whole = div-add-mod' i 32 in
      let below = mod_below i 32 (omega arith) in
      omega (arith, within, few, whole, below)

  pub few_items : (ps : List (List X)) (rest : List X) → ArePieces 4294967296 ps rest → length (joined ps ++ rest) ≤ 274877906944
  few_items ps rest are =
      let long = length-pieces ps rest are.0 in
      let few = are.1 in
      let short = are.2 in
      omega (arith, long, few, short)
