-- The sizes of the frames of the nodes that are made.
use Rattle.std.proofs.Common.{◌≡◌, ◌∙◌, ℕ, suc, ◌+◌, List, [], ◌∷◌, ◌++◌, length, map, refl, sym, ap, subst, append_assoc, append-nil, length-append}
use Rattle.std.specs.Prelude.{All, Some}
use Rattle.std.specs.List.{AllZip, slice_get}
use Rattle.std.proofs.lemmas.List.{map-append}
use Rattle.std.proofs.lemmas.List.Elements.{All-append, All-cons, All-nil, All-weaker}
use Rattle.value_core.specs.Place.{Spot}
use Rattle.value_core.specs.primitives.Words.{takes_of}
use Rattle.core_syntax.specs.declared.function.Function.{Function}
use Rattle.core_syntax.specs.declared.node.Node.{Node}
use Rattle.core_syntax.specs.declared.node_id.NodeId.{NodeId}
use Rattle.core_syntax.specs.declared.row.Row.{Row}
use Rattle.core_syntax.specs.Children.{children}
use Rattle.core_syntax.specs.Fits.{HaveSizes, NodeFits, child_sizes}
use Rattle.core_syntax.proofs.Appends.{slice_get-append_left, slice_get-push}
use Rattle.program_plan.specs.Made.{Made, Making, node, nothing, followed, in_loop}
use Rattle.program_plan.proofs.Setting.{Setting, Entry, takes_in}

-- the node has a frame of that size
abbrev pub HasSize : ℕ → List ℕ → NodeId → Type 0
HasSize size sizes id = slice_get sizes id.index ≡ Some size

-- the body of the function has a frame of its arguments
abbrev pub HasBody : List ℕ → Function → Type 0
HasBody sizes function = slice_get sizes function.body.index ≡ Some function.takes

-- in a frame of its size the row fits
abbrev pub RowFits : Setting → List ℕ → Row → ℕ → Type 0
RowFits w sizes row size = NodeFits takes_of w.table sizes size row.node

-- What is made has frames of these sizes behind those of what was there: the answer is as it should be, the functions are
-- those of these loops, and where enough is known, each node fits.
pub record MadeFits {A : Type 0} (w : Setting) (enough : Type 0) (made : Made A) (before : List ℕ) (entries : List Entry) (IsDue : List ℕ → A → Type 0) : Type 0 where
  pub sizes : List ℕ
  pub each : length sizes ≡ length made.rows
  pub answer : IsDue (before ++ sizes) made.answer
  pub takes : map (λ f. f.takes) made.loops ≡ map (takes_in w) entries
  pub bodies : All (HasBody (before ++ sizes)) made.loops
  pub fit : enough → AllZip (RowFits w (before ++ sizes)) made.rows sizes

abbrev pub Sized : {A : Type 0} → Setting → Type 0 → Making A → List ℕ → List Entry → (List ℕ → A → Type 0) → Type 0
Sized w enough making before entries IsDue = MadeFits w enough (making (length before)) before entries IsDue

-- what has sizes keeps them where more come
pub HaveSizes-more : (sizes more : List ℕ) (ids : List NodeId) (ns : List ℕ) → HaveSizes sizes ids ns → HaveSizes (sizes ++ more) ids ns
HaveSizes-more sizes more [] [] have = tt
HaveSizes-more sizes more [] (n ∷ ns) have = have
HaveSizes-more sizes more (id ∷ ids) [] have = have
HaveSizes-more sizes more (id ∷ ids) (n ∷ ns) have = (slice_get-append_left sizes more id.index n have.0, HaveSizes-more sizes more ids ns have.1)

pub HaveSizes-append : (sizes : List ℕ) (ids others : List NodeId) (ns ms : List ℕ) → HaveSizes sizes ids ns → HaveSizes sizes others ms → HaveSizes sizes (ids ++ others) (ns ++ ms)
HaveSizes-append sizes [] others [] ms first second = second
HaveSizes-append sizes [] others (n ∷ ns) ms first second = absurd first
HaveSizes-append sizes (id ∷ ids) others [] ms first second = absurd first
HaveSizes-append sizes (id ∷ ids) others (n ∷ ns) ms first second = (first.0, HaveSizes-append sizes ids others ns ms first.1 second)

pub length-HaveSizes : (sizes : List ℕ) (ids : List NodeId) (ns : List ℕ) → HaveSizes sizes ids ns → length ids ≡ length ns
length-HaveSizes sizes [] [] have = refl
length-HaveSizes sizes [] (n ∷ ns) have = absurd have
length-HaveSizes sizes (id ∷ ids) [] have = absurd have
length-HaveSizes sizes (id ∷ ids) (n ∷ ns) have = ap (λ k. suc k) (length-HaveSizes sizes ids ns have.1)

RowFits-more : (w : Setting) (sizes more : List ℕ) (row : Row) (size : ℕ) → RowFits w sizes row size → RowFits w (sizes ++ more) row size
RowFits-more w sizes more row size fits = record { itself = fits.itself; inside = HaveSizes-more sizes more (children row.node) (child_sizes size row.node) fits.inside }

pub rows_more : (w : Setting) (sizes more : List ℕ) (rows : List Row) (ns : List ℕ) → AllZip (RowFits w sizes) rows ns → AllZip (RowFits w (sizes ++ more)) rows ns
rows_more w sizes more [] [] fit = tt
rows_more w sizes more [] (n ∷ ns) fit = fit
rows_more w sizes more (row ∷ rows) [] fit = fit
rows_more w sizes more (row ∷ rows) (n ∷ ns) fit = (RowFits-more w sizes more row n fit.0, rows_more w sizes more rows ns fit.1)

pub rows_append : (w : Setting) (sizes : List ℕ) (rows others : List Row) (ns ms : List ℕ) → AllZip (RowFits w sizes) rows ns → AllZip (RowFits w sizes) others ms → AllZip (RowFits w sizes) (rows ++ others) (ns ++ ms)
rows_append w sizes [] others [] ms first second = second
rows_append w sizes [] others (n ∷ ns) ms first second = absurd first
rows_append w sizes (row ∷ rows) others [] ms first second = absurd first
rows_append w sizes (row ∷ rows) others (n ∷ ns) ms first second = (first.0, rows_append w sizes rows others ns ms first.1 second)

pub bodies_more : (sizes more : List ℕ) (functions : List Function) → All (HasBody sizes) functions → All (HasBody (sizes ++ more)) functions
bodies_more sizes more functions all =
    All-weaker (HasBody sizes) (HasBody (sizes ++ more)) (λ f has. slice_get-append_left sizes more f.body.index f.takes has) functions all

-- one thing that is made behind another
pub both_fit : {A B : Type 0} (w : Setting) (enough : Type 0) (a : Made A) (b : Made B) (before : List ℕ) (entries others : List Entry) (P : List ℕ → A → Type 0) (Q : List ℕ → B → Type 0)
    → (first : MadeFits w enough a before entries P) → MadeFits w enough b (before ++ first.sizes) others Q
    → MadeFits w enough (record { rows = a.rows ++ b.rows; loops = a.loops ++ b.loops; answer = b.answer }) before (entries ++ others) Q
both_fit w enough a b before entries others P Q first second =
    let together : (before ++ first.sizes) ++ second.sizes ≡ before ++ (first.sizes ++ second.sizes) = append_assoc before first.sizes second.sizes in
    record {
      sizes = first.sizes ++ second.sizes;
      each = length-append first.sizes second.sizes ∙ ap (λ n. n + length second.sizes) first.each ∙ ap (λ n. length a.rows + n) second.each ∙ sym (length-append a.rows b.rows);
      answer = subst (λ l. Q l b.answer) together second.answer;
      takes = map-append (λ (f : Function). f.takes) a.loops b.loops ∙ ap (λ l. l ++ map (λ (f : Function). f.takes) b.loops) first.takes ∙ ap (λ l. map (takes_in w) entries ++ l) second.takes
          ∙ sym (map-append (takes_in w) entries others);
      bodies = All-append (HasBody (before ++ (first.sizes ++ second.sizes))) a.loops b.loops
          (subst (λ l. All (HasBody l) a.loops) together (bodies_more (before ++ first.sizes) second.sizes a.loops first.bodies))
          (subst (λ l. All (HasBody l) b.loops) together second.bodies);
      fit = λ h. rows_append w (before ++ (first.sizes ++ second.sizes)) a.rows b.rows first.sizes second.sizes
          (subst (λ l. AllZip (RowFits w l) a.rows first.sizes) together (rows_more w (before ++ first.sizes) second.sizes a.rows first.sizes (first.fit h)))
          (subst (λ l. AllZip (RowFits w l) b.rows second.sizes) together (second.fit h));
    }

pub sized_followed : {A B : Type 0} (w : Setting) (enough : Type 0) (p : Making A) (k : A → Making B) (before : List ℕ) (entries others : List Entry) (P : List ℕ → A → Type 0) (Q : List ℕ → B → Type 0)
    → Sized w enough p before entries P → ((more : List ℕ) (x : A) → P (before ++ more) x → Sized w enough (k x) (before ++ more) others Q)
    → Sized w enough (followed p k) before (entries ++ others) Q
unfolding followed
sized_followed {A} {B} w enough p k before entries others P Q first then =
    let a = p (length before) in
    let second = then first.sizes a.answer first.answer in
    let count : length (before ++ first.sizes) ≡ length before + length a.rows = length-append before first.sizes ∙ ap (λ n. length before + n) first.each in
    both_fit w enough a (k a.answer (length before + length a.rows)) before entries others P Q first
    (subst (λ n. MadeFits w enough (k a.answer n) (before ++ first.sizes) others Q) count second)

-- a second step without loops
pub sized_then : {A B : Type 0} (w : Setting) (enough : Type 0) (p : Making A) (k : A → Making B) (before : List ℕ) (entries : List Entry) (P : List ℕ → A → Type 0) (Q : List ℕ → B → Type 0)
    → Sized w enough p before entries P → ((more : List ℕ) (x : A) → P (before ++ more) x → Sized w enough (k x) (before ++ more) [] Q)
    → Sized w enough (followed p k) before entries Q
sized_then w enough p k before entries P Q first then =
    subst (λ l. Sized w enough (followed p k) before l Q) (append-nil entries) (sized_followed w enough p k before entries [] P Q first then)

pub sized_node : (w : Setting) (enough : Type 0) (at : Spot) (n : Node) (before : List ℕ) (size : ℕ) → (enough → NodeFits takes_of w.table before size n)
    → Sized w enough (node at n) before [] (HasSize size)
unfolding node
sized_node w enough at n before size fits = record {
  sizes = size ∷ [];
  each = refl;
  answer = slice_get-push before size;
  takes = refl;
  bodies = All-nil (HasBody (before ++ size ∷ []));
  fit = λ h. (RowFits-more w before (size ∷ []) (record { node = n; at = at }) size (fits h), tt);
}

pub sized_nothing : {A : Type 0} (w : Setting) (enough : Type 0) (x : A) (before : List ℕ) (P : List ℕ → A → Type 0) → P before x → Sized w enough (nothing x) before [] P
unfolding nothing
sized_nothing w enough x before P due = record {
  sizes = [];
  each = refl;
  answer = subst (λ l. P l x) (sym (append-nil before)) due;
  takes = refl;
  bodies = All-nil (HasBody (before ++ []));
  fit = λ h. tt;
}

-- the function of a loop, and then those of the loops in it
pub sized_in_loop : {A : Type 0} (w : Setting) (enough : Type 0) (f : A → Function) (p : Making A) (before : List ℕ) (entry : Entry) (entries : List Entry) (P : List ℕ → A → Type 0)
    → ((sizes : List ℕ) (x : A) → P sizes x → HasBody sizes (f x)) → ((x : A) → (f x).takes ≡ takes_in w entry)
    → Sized w enough p before entries P → Sized w enough (in_loop f p) before (entry ∷ entries) P
unfolding in_loop
sized_in_loop {A} w enough f p before entry entries P has takes inside =
    let a = p (length before) in
    record {
      sizes = inside.sizes;
      each = inside.each;
      answer = inside.answer;
      takes = ap (λ n. n ∷ map (λ (g : Function). g.takes) a.loops) (takes a.answer) ∙ ap (λ l. takes_in w entry ∷ l) inside.takes;
      bodies = All-cons (HasBody (before ++ inside.sizes)) (f a.answer) a.loops (has (before ++ inside.sizes) a.answer inside.answer) inside.bodies;
      fit = inside.fit;
    }

-- where more is known
pub sized_where : {A : Type 0} (w : Setting) (enough more : Type 0) (p : Making A) (before : List ℕ) (entries : List Entry) (P : List ℕ → A → Type 0) → (more → enough)
    → Sized w enough p before entries P → Sized w more p before entries P
sized_where w enough more p before entries P gives sized = record {
  sizes = sized.sizes;
  each = sized.each;
  answer = sized.answer;
  takes = sized.takes;
  bodies = sized.bodies;
  fit = λ h. sized.fit (gives h);
}

-- an answer of which less is said
pub sized_due : {A : Type 0} (w : Setting) (enough : Type 0) (p : Making A) (before : List ℕ) (entries : List Entry) (P Q : List ℕ → A → Type 0) → ((sizes : List ℕ) (x : A) → P sizes x → Q sizes x)
    → Sized w enough p before entries P → Sized w enough p before entries Q
sized_due w enough p before entries P Q gives sized = record {
  sizes = sized.sizes;
  each = sized.each;
  answer = gives (before ++ sized.sizes) (p (length before)).answer sized.answer;
  takes = sized.takes;
  bodies = sized.bodies;
  fit = sized.fit;
}
