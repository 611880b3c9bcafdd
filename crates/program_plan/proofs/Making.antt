-- Steps of making.
use Rattle.std.proofs.Common.{◌≡◌, ◌∙◌, ℕ, ◌+◌, ◌<◌, ◌≤◌, List, [], ◌∷◌, ◌++◌, length, drop, refl, sym, ap, subst, append_assoc, append-nil, length-append, arith}
use Rattle.std.specs.Prelude.{Result, Ok, Err, IsErr, IsErrAnd, insert}
use Rattle.std.proofs.Math.Seq.{take-append_seam, drop-append_seam}
use Rattle.value_core.specs.Place.{Spot}
use Rattle.core_syntax.specs.declared.build_no.BuildNo.{BuildNo}
use Rattle.core_syntax.specs.declared.build_no.BuildNo.TheVariants.{TooManyNodes, Memory}
use Rattle.core_syntax.specs.declared.function.Function.{Function}
use Rattle.core_syntax.specs.declared.node.Node.{Node}
use Rattle.core_syntax.specs.declared.node.Node.TheVariants.{Let, Call}
use Rattle.core_syntax.specs.declared.node_id.NodeId.{NodeId}
use Rattle.core_syntax.specs.declared.row.Row.{Row}
use Rattle.core_syntax.specs.Limit.{node_limit}
use Rattle.program_plan.specs.Made.{Draft, Making, node, nothing, followed, in_loop, extended, answered, Makes}

-- two steps are one
extended-followed : {A B : Type 0} (p : Making A) (k : A → Making B) (s : Draft) → extended (k (answered p s)) (extended p s) ≡ extended (followed p k) s
unfolding extended answered followed
extended-followed {A} {B} p k s =
    let a = p (length s.rows) in
    let of_count : ℕ → Draft = λ n. record { rows = (s.rows ++ a.rows) ++ (k a.answer n).rows; loops = (s.loops ++ a.loops) ++ (k a.answer n).loops } in
    let b = k a.answer (length s.rows + length a.rows) in
    let of_rows : List Row → Draft = λ rows. record { rows = rows; loops = (s.loops ++ a.loops) ++ b.loops } in
    let of_loops : List Function → Draft = λ loops. record { rows = s.rows ++ (a.rows ++ b.rows); loops = loops } in
    ap of_count (length-append s.rows a.rows) ∙ ap of_rows (append_assoc s.rows a.rows b.rows) ∙ ap of_loops (append_assoc s.loops a.loops b.loops)

answered-followed : {A B : Type 0} (p : Making A) (k : A → Making B) (s : Draft) → answered (k (answered p s)) (extended p s) ≡ answered (followed p k) s
unfolding extended answered followed
answered-followed p k s =
    let a = p (length s.rows) in
    ap (λ n. (k a.answer n).answer) (length-append s.rows a.rows)

length-extended : {A : Type 0} (p : Making A) (s : Draft) → length s.rows ≤ length (extended p s).rows
unfolding extended
length-extended p s = let e = length-append s.rows (p (length s.rows)).rows in omega arith

-- the second step, made with the first
rest : {A B : Type 0} (p : Making A) (k : A → Making B) (s t : Draft) (r : Result B BuildNo) → Makes (k (answered p s)) (extended p s) r t → Makes (followed p k) s r t
rest p k s t (Ok y) makes = record { made = (makes.made.0 ∙ extended-followed p k s, makes.made.1 ∙ answered-followed p k s); past = tt }
rest p k s t (Err e) makes = record {
  made = tt;
  past = λ is. subst (λ (d : Draft). node_limit < length d.rows) (extended-followed p k s) (makes.past is);
}

both : {A B : Type 0} (p : Making A) (k : A → Making B) (s u t : Draft) (x : A) (r : Result B BuildNo) → u ≡ extended p s → x ≡ answered p s → Makes (k x) u r t → Makes (followed p k) s r t
both p k s u t x r is answer makes =
    rest p k s t r (subst (λ y. Makes (k y) (extended p s) r t) answer (subst (λ d. Makes (k x) d r t) is makes))

pub makes_then : {A B : Type 0} {p : Making A} {s u t : Draft} {x : A} {r : Result B BuildNo} (k : A → Making B) → Makes p s (Ok x) u → Makes (k x) u r t → Makes (followed p k) s r t
makes_then {A} {B} {p} {s} {u} {t} {x} {r} k first second = both p k s u t x r first.made.0 first.made.1 second

-- a first step that is not made
pub makes_stop : {A B : Type 0} {p : Making A} {s u : Draft} {e : BuildNo} (k : A → Making B) (t : Draft) → Makes p s (Err e) u → Makes (followed p k) s (Err e) t
makes_stop {A} {B} {p} {s} {u} {e} k t first = record {
  made = tt;
  past = λ is.
      let longer : length (extended p s).rows ≤ length (extended (followed p k) s).rows =
      subst (λ (d : Draft). length (extended p s).rows ≤ length d.rows) (extended-followed p k s) (length-extended (k (answered p s)) (extended p s)) in
      let past = first.past is in omega arith;
}

pub makes_memory : {A : Type 0} (p : Making A) (s t : Draft) → Makes p s (Err Memory) t
makes_memory p s t = record { made = tt; past = λ is. absurd (cc) }

pub makes_nothing : {A : Type 0} (x : A) (s : Draft) → Makes (nothing x) s (Ok x) s
unfolding nothing extended answered
makes_nothing x s =
    let of_rows : List Row → Draft = λ rows. record { rows = rows; loops = s.loops } in
    let of_loops : List Function → Draft = λ loops. record { rows = s.rows ++ []; loops = loops } in
    record { made = (ap of_rows (sym (append-nil s.rows)) ∙ ap of_loops (sym (append-nil s.loops)), refl); past = tt }

-- one node more
pub makes_node : (at : Spot) (n : Node) (rows more : List Row) (loops : List Function) (id : NodeId)
    → more ≡ rows ++ record { node = n; at = at } ∷ [] → id.index ≡ length rows → Makes (node at n) (record { rows = rows; loops = loops }) (Ok id) (record { rows = more; loops = loops })
unfolding node extended answered
makes_node at n rows more loops id pushed last =
    let of_rows : List Row → Draft = λ r. record { rows = r; loops = loops } in
    let of_loops : List Function → Draft = λ l. record { rows = rows ++ record { node = n; at = at } ∷ []; loops = l } in
    let of_index : ℕ → NodeId = λ index. record { index = index } in
    record { made = (ap of_rows pushed ∙ ap of_loops (sym (append-nil loops)), ap of_index last); past = tt }

pub makes_no_node : (at : Spot) (n : Node) (s t : Draft) (e : BuildNo) → (e ≡ TooManyNodes → length s.rows ≡ node_limit) → Makes (node at n) s (Err e) t
unfolding node extended
makes_no_node at n s t e full = record {
  made = tt;
  past = λ is.
      let rows_full = full is in
      let longer = length-append s.rows (record { node = n; at = at } ∷ []) in
      omega arith;
}

-- the functions of loops come in front of those that begin in them
pub makes_in_loop : {A : Type 0} {p : Making A} {s u t : Draft} {x : A} (f : A → Function) → Makes p s (Ok x) u → t ≡ record { rows = u.rows; loops = insert u.loops (length s.loops) (f x) } → Makes (in_loop f p) s (Ok x) t
unfolding in_loop extended answered
makes_in_loop {A} {p} {s} {u} {t} {x} f inside inserted =
    let m = p (length s.rows) in
    let step : Draft → A → Draft = λ d y. record { rows = d.rows; loops = insert d.loops (length s.loops) (f y) } in
    let of_loops : List Function → Draft = λ l. record { rows = s.rows ++ m.rows; loops = l } in
    record {
      made = (inserted ∙ ap (λ d. step d x) inside.made.0 ∙ ap (λ y. step (extended p s) y) inside.made.1 ∙ ap of_loops (insert-seam s.loops m.loops (f m.answer)), inside.made.1);
      past = tt;
    }
  where
    insert-seam : (xs ys : List Function) (y : Function) → insert (xs ++ ys) (length xs) y ≡ xs ++ y ∷ ys
    insert-seam xs ys y = ap (λ l. l ++ y ∷ drop (length xs) (xs ++ ys)) (take-append_seam xs ys) ∙ ap (λ l. xs ++ y ∷ l) (drop-append_seam xs ys)

pub makes_no_loop : {A : Type 0} {p : Making A} {s u : Draft} {e : BuildNo} (f : A → Function) (t : Draft) → Makes p s (Err e) u → Makes (in_loop f p) s (Err e) t
unfolding in_loop extended
makes_no_loop {A} {p} {s} {u} {e} f t inside = record { made = tt; past = inside.past }

-- the error that a `?` hands on
pub makes_error : {A : Type 0} {p : Making A} {s t : Draft} {e : BuildNo} (r : Result A BuildNo) → IsErr r × IsErrAnd r (λ y. y ≡ e) → Makes p s (Err e) t → Makes p s r t
makes_error {A} {p} {s} {t} {e} (Ok x) is made = absurd is.1
makes_error {A} {p} {s} {t} {e} (Err y) is made = subst (λ z. Makes p s (Err z) t) (sym is.1) made

-- a draft under another name
pub makes_of : {A : Type 0} {p : Making A} {s u t : Draft} {r : Result A BuildNo} → s ≡ u → Makes p s r t → Makes p u r t
makes_of {A} {p} {s} {u} {t} {r} is made = subst (λ d. Makes p d r t) is made

-- a node of what was answered
pub makes_then_node : {A : Type 0} {p : Making A} {s u t : Draft} {x : A} {r : Result NodeId BuildNo} (at : Spot) (k : A → Node) (n : Node) → Makes p s (Ok x) u → n ≡ k x → Makes (node at n) u r t → Makes (followed p (λ y. node at (k y))) s r t
makes_then_node {A} {p} {s} {u} {t} {x} {r} at k n first is second = makes_then (λ y. node at (k y)) first (subst (λ m. Makes (node at m) u r t) is second)

-- a making under another name
pub makes_like : {A : Type 0} {p q : Making A} {s t : Draft} {r : Result A BuildNo} → p ≡ q → Makes p s r t → Makes q s r t
makes_like {A} {p} {q} {s} {t} {r} is made = subst (λ m. Makes m s r t) is made

-- a let of one bound value
pub makes_bound : (at : Spot) (value body : NodeId) (bound : List NodeId) (s t : Draft) (r : Result NodeId BuildNo) → bound ≡ value ∷ [] → Makes (node at (Let bound body)) s r t → Makes (node at (Let (value ∷ []) body)) s r t
makes_bound at value body bound s t r is made = subst (λ l. Makes (node at (Let l body)) s r t) is made

-- a call with these hidden arguments
pub makes_call : (at : Spot) (number : ℕ) (hidden places : List ℕ) (arguments : List NodeId) (s t : Draft) (r : Result NodeId BuildNo) → hidden ≡ places → Makes (node at (Call number hidden arguments)) s r t → Makes (node at (Call number places arguments)) s r t
makes_call at number hidden places arguments s t r is made = subst (λ l. Makes (node at (Call number l arguments)) s r t) is made

-- the loops stay
pub makes_loops : {A : Type 0} {p : Making A} {s u : Draft} {x : A} → Makes p s (Ok x) u → length s.loops ≤ length u.loops
unfolding extended
makes_loops {A} {p} {s} {u} {x} made =
    let longer = length-append s.loops (p (length s.rows)).loops in
    subst (λ (d : Draft). length s.loops ≤ length d.loops) (sym made.made.0) (omega arith)

pub inserted_at : (rows : List Row) (loops : List Function) (t : Draft) (i n : ℕ) (f g : Function) → t ≡ record { rows = rows; loops = insert loops i f } → i ≡ n → f ≡ g → t ≡ record { rows = rows; loops = insert loops n g }
inserted_at rows loops t i n f g is at same =
    let of_index : ℕ → Draft = λ k. record { rows = rows; loops = insert loops k f } in
    let of_function : Function → Draft = λ h. record { rows = rows; loops = insert loops n h } in
    is ∙ ap of_index at ∙ ap of_function same
