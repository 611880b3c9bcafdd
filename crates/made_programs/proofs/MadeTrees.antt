-- The forms of a program that is made, by their shape, and that its text is theirs.
use Rattle.std.proofs.Common.{◌≡◌, ◌<◌, ◌≤◌, ℕ, zero, suc, ◌+◌, ◌*◌, ◌^◌, true, List, [], ◌∷◌, ◌++◌, map, refl, ap, ◌∙◌, arith, append_assoc}
use Rattle.std.specs.Prelude.{codes}
use Rattle.std.specs.Fmt.{decimal}
use Rattle.std.specs.List.{range_with_len}
use Rattle.std.proofs.Math.Nat.{mod-lt}
use Rattle.std.proofs.lemmas.List.{map-append}
use Rattle.std.proofs.lemmas.Fmt.{decimal_digit, decimal_step}
use Rattle.program_maker.specs.Draws.{draw}
use Rattle.program_maker.specs.MadeText.{transfer, transfer_line, common_lines, counter_line, teller_line, made_lines}
use Rattle.made_programs.proofs.Trees.{Tree, Trees, is_symbol, text_of}

abbrev pub trees : List Tree → Trees
trees [] = Trees.none
trees (t ∷ ts) = Trees.more t (trees ts)

abbrev pub form : List Tree → Tree
form parts = Tree.list (trees parts)

abbrev pub items : List Tree → Tree
items parts = Tree.vector (trees parts)

-- the integers that stand in each program
text_0 : decimal 0 ≡ codes "0"
text_0 = decimal_digit 0 (omega arith)

text_1 : decimal 1 ≡ codes "1"
text_1 = decimal_digit 1 (omega arith)

text_10 : decimal 10 ≡ codes "10"
text_10 = decimal_step 10 (omega arith) (omega arith) ∙ ap (λ x. x ++ codes "0") text_1

text_100 : decimal 100 ≡ codes "100"
text_100 = decimal_step 100 (omega arith) (omega arith) ∙ ap (λ x. x ++ codes "0") text_10

text_1000 : decimal 1000 ≡ codes "1000"
text_1000 = decimal_step 1000 (omega arith) (omega arith) ∙ ap (λ x. x ++ codes "0") text_100

abbrev pub move_tree : Tree
move_tree =
    form (Tree.word (codes "defn") refl ∷ Tree.word (codes "move") refl
    ∷ items (Tree.word (codes "from") refl ∷ Tree.word (codes "to") refl ∷ Tree.word (codes "n") refl ∷ [])
    ∷ form (Tree.word (codes "dosync") refl
    ∷ form (Tree.word (codes "alter") refl ∷ Tree.word (codes "from") refl ∷ Tree.word (codes "-") refl ∷ Tree.word (codes "n") refl ∷ [])
    ∷ form (Tree.word (codes "alter") refl ∷ Tree.word (codes "to") refl ∷ Tree.word (codes "+") refl ∷ Tree.word (codes "n") refl ∷ [])
    ∷ Tree.word (codes "nil") refl ∷ [])
    ∷ [])

move_text : text_of move_tree ≡ codes "(defn move [from to n] (dosync (alter from - n) (alter to + n) nil))"
move_text = refl

abbrev pub refs_tree : Tree
refs_tree =
    form (Tree.word (codes "def") refl ∷ Tree.word (codes "refs") refl
    ∷ form (Tree.word (codes "loop") refl
    ∷ items (Tree.word (codes "v") refl ∷ items [] ∷ Tree.word (codes "i") refl ∷ Tree.number 0 (omega arith) ∷ [])
    ∷ form (Tree.word (codes "if") refl
    ∷ form (Tree.word (codes "=") refl ∷ Tree.word (codes "i") refl ∷ Tree.number 100 (omega arith) ∷ [])
    ∷ Tree.word (codes "v") refl
    ∷ form (Tree.word (codes "recur") refl
    ∷ form (Tree.word (codes "conj") refl ∷ Tree.word (codes "v") refl ∷ form (Tree.word (codes "ref") refl ∷ Tree.number 1000 (omega arith) ∷ []) ∷ [])
    ∷ form (Tree.word (codes "inc") refl ∷ Tree.word (codes "i") refl ∷ [])
    ∷ [])
    ∷ [])
    ∷ [])
    ∷ [])

refs_text : text_of refs_tree ≡ codes "(def refs (loop [v [] i 0] (if (= i 100) v (recur (conj v (ref 1000)) (inc i)))))"
refs_text = rw (text_0, text_100, text_1000) refl

abbrev pub total_tree : Tree
total_tree =
    form (Tree.word (codes "defn") refl ∷ Tree.word (codes "total") refl
    ∷ items (Tree.word (codes "refs") refl ∷ Tree.word (codes "i") refl ∷ Tree.word (codes "sum") refl ∷ [])
    ∷ form (Tree.word (codes "if") refl
    ∷ form (Tree.word (codes "=") refl ∷ Tree.word (codes "i") refl ∷ form (Tree.word (codes "count") refl ∷ Tree.word (codes "refs") refl ∷ []) ∷ [])
    ∷ Tree.word (codes "sum") refl
    ∷ form (Tree.word (codes "total") refl ∷ Tree.word (codes "refs") refl
    ∷ form (Tree.word (codes "inc") refl ∷ Tree.word (codes "i") refl ∷ [])
    ∷ form (Tree.word (codes "+") refl ∷ Tree.word (codes "sum") refl
    ∷ Tree.at_sign (form (Tree.word (codes "nth") refl ∷ Tree.word (codes "refs") refl ∷ Tree.word (codes "i") refl ∷ [])) ∷ [])
    ∷ [])
    ∷ [])
    ∷ [])

total_text : text_of total_tree ≡ codes "(defn total [refs i sum] (if (= i (count refs)) sum (total refs (inc i) (+ sum @(nth refs i)))))"
total_text = refl

abbrev pub counter_tree : Tree
counter_tree =
    form (Tree.word (codes "def") refl ∷ Tree.word (codes "counter") refl
    ∷ form (Tree.word (codes "behavior") refl ∷ items (Tree.word (codes "left") refl ∷ Tree.word (codes "refs") refl ∷ []) ∷ items []
    ∷ form (Tree.word (codes "if") refl
    ∷ form (Tree.word (codes "=") refl ∷ Tree.word (codes "left") refl ∷ Tree.number 1 (omega arith) ∷ [])
    ∷ form (Tree.word (codes "println") refl ∷ Tree.string (codes "total") refl
    ∷ form (Tree.word (codes "dosync") refl
    ∷ form (Tree.word (codes "total") refl ∷ Tree.word (codes "refs") refl ∷ Tree.number 0 (omega arith) ∷ Tree.number 0 (omega arith) ∷ []) ∷ [])
    ∷ [])
    ∷ form (Tree.word (codes "become") refl ∷ Tree.word (codes "counter") refl
    ∷ form (Tree.word (codes "dec") refl ∷ Tree.word (codes "left") refl ∷ []) ∷ Tree.word (codes "refs") refl ∷ [])
    ∷ [])
    ∷ [])
    ∷ [])

counter_text : text_of counter_tree ≡ codes "(def counter (behavior [left refs] [] (if (= left 1) (println \"total\" (dosync (total refs 0 0))) (become counter (dec left) refs))))"
counter_text = rw (text_0, text_1) refl

abbrev pub teller_tree : Tree
teller_tree =
    form (Tree.word (codes "def") refl ∷ Tree.word (codes "teller") refl
    ∷ form (Tree.word (codes "behavior") refl ∷ items (Tree.word (codes "done") refl ∷ Tree.word (codes "refs") refl ∷ [])
    ∷ items (Tree.word (codes "i") refl ∷ Tree.word (codes "j") refl ∷ Tree.word (codes "n") refl ∷ [])
    ∷ form (Tree.word (codes "move") refl
    ∷ form (Tree.word (codes "nth") refl ∷ Tree.word (codes "refs") refl ∷ Tree.word (codes "i") refl ∷ [])
    ∷ form (Tree.word (codes "nth") refl ∷ Tree.word (codes "refs") refl ∷ Tree.word (codes "j") refl ∷ [])
    ∷ Tree.word (codes "n") refl ∷ [])
    ∷ form (Tree.word (codes "send") refl ∷ Tree.word (codes "done") refl ∷ [])
    ∷ [])
    ∷ [])

teller_text : text_of teller_tree ≡ codes "(def teller (behavior [done refs] [i j n] (move (nth refs i) (nth refs j) n) (send done)))"
teller_text = refl

-- texts with something between them and behind them
two_texts : (a b between behind : List ℕ) → ((a ++ between) ++ b) ++ behind ≡ a ++ (between ++ (b ++ behind))
two_texts a b between behind = simp (append_assoc) refl

four_texts : (a b c d between behind : List ℕ)
    → ((a ++ between) ++ ((b ++ between) ++ ((c ++ between) ++ d))) ++ behind ≡ ((((((a ++ between) ++ b) ++ between) ++ c) ++ between) ++ d) ++ behind
four_texts a b c d between behind = simp (append_assoc) refl

-- the actor that counts so many transfers
abbrev pub done_tree : (size : ℕ) → size < 2 ^ 63 → Tree
done_tree size small =
    form (Tree.word (codes "def") refl ∷ Tree.word (codes "done") refl
    ∷ form (Tree.word (codes "spawn") refl ∷ Tree.word (codes "counter") refl ∷ Tree.number size small ∷ Tree.word (codes "refs") refl ∷ []) ∷ [])

done_text : (size : ℕ) (small : size < 2 ^ 63) → text_of (done_tree size small) ≡ counter_line size
done_text size small = simp (append_assoc) refl

-- the name of the teller with that number
abbrev pub name_of : ℕ → List ℕ
name_of teller = codes "t" ++ decimal teller

module _ (P : ℕ → Type 0) (zeroth : P 0) (first : P 1) (second : P 2) (third : P 3) (fourth : P 4) (fifth : P 5) (sixth : P 6) (seventh : P 7) where
  pub below_eight : (n : ℕ) → n < 8 → P n
  below_eight zero small = zeroth
  below_eight (suc zero) small = first
  below_eight (suc (suc zero)) small = second
  below_eight (suc (suc (suc zero))) small = third
  below_eight (suc (suc (suc (suc zero)))) small = fourth
  below_eight (suc (suc (suc (suc (suc zero))))) small = fifth
  below_eight (suc (suc (suc (suc (suc (suc zero)))))) small = sixth
  below_eight (suc (suc (suc (suc (suc (suc (suc zero))))))) small = seventh
  below_eight (suc (suc (suc (suc (suc (suc (suc (suc n)))))))) small = absurd (omega (arith, small))

pub name_is : (teller : ℕ) → teller < 8 → is_symbol (name_of teller) ≡ true
name_is = below_eight (λ n. is_symbol (name_of n) ≡ true)
    (rw (decimal_digit 0 (omega arith)) refl) (rw (decimal_digit 1 (omega arith)) refl) (rw (decimal_digit 2 (omega arith)) refl) (rw (decimal_digit 3 (omega arith)) refl)
    (rw (decimal_digit 4 (omega arith)) refl) (rw (decimal_digit 5 (omega arith)) refl) (rw (decimal_digit 6 (omega arith)) refl) (rw (decimal_digit 7 (omega arith)) refl)

abbrev pub spawn_tree : (teller : ℕ) → teller < 8 → Tree
spawn_tree teller small =
    form (Tree.word (codes "def") refl ∷ Tree.word (name_of teller) (name_is teller small)
    ∷ form (Tree.word (codes "spawn") refl ∷ Tree.word (codes "teller") refl ∷ Tree.word (codes "done") refl ∷ Tree.word (codes "refs") refl ∷ []) ∷ [])

spawn_text : (teller : ℕ) (small : teller < 8) → text_of (spawn_tree teller small) ≡ teller_line teller
spawn_text teller small = ap (λ x. codes "(def t" ++ x) (two_texts (decimal teller) (codes "(spawn teller done refs)") (codes " ") (codes ")"))

abbrev pub send_tree : (teller from to amount : ℕ) → teller < 8 → from < 100 → to < 100 → amount ≤ 50 → Tree
send_tree teller from to amount small low other few =
    form (Tree.word (codes "send") refl ∷ Tree.word (name_of teller) (name_is teller small)
    ∷ Tree.number from (omega (arith, low)) ∷ Tree.number to (omega (arith, other)) ∷ Tree.number amount (omega (arith, few)) ∷ [])

pub send_text : (teller from to amount : ℕ) (small : teller < 8) (low : from < 100) (other : to < 100) (few : amount ≤ 50)
    → text_of (send_tree teller from to amount small low other few)
    ≡ codes "(send t" ++ decimal teller ++ codes " " ++ decimal from ++ codes " " ++ decimal to ++ codes " " ++ decimal amount ++ codes ")"
send_text teller from to amount small low other few =
    ap (λ x. codes "(send t" ++ x) (four_texts (decimal teller) (decimal from) (decimal to) (decimal amount) (codes " ") (codes ")"))

-- a transfer is one of such a teller between two such refs, of at most fifty
pub teller_small : (number index : ℕ) → (transfer number index).teller < 8
teller_small number index = mod-lt _ (omega arith)

pub from_small : (number index : ℕ) → (transfer number index).from < 100
from_small number index = mod-lt _ (omega arith)

pub to_small : (number index : ℕ) → (transfer number index).to < 100
to_small number index = mod-lt _ (omega arith)

pub amount_small : (number index : ℕ) → (transfer number index).amount ≤ 50
amount_small number index = let rest = mod-lt (draw number (4 * index + 3)) {m = 50} (omega arith) in omega (arith, rest)

-- the form that sends the transfer at the index
abbrev pub transfer_tree : ℕ → ℕ → Tree
transfer_tree number index =
    send_tree (transfer number index).teller (transfer number index).from (transfer number index).to (transfer number index).amount
    (teller_small number index) (from_small number index) (to_small number index) (amount_small number index)

pub transfer_text : (number index : ℕ) → text_of (transfer_tree number index) ≡ transfer_line (transfer number index)
transfer_text number index =
    send_text (transfer number index).teller (transfer number index).from (transfer number index).to (transfer number index).amount
    (teller_small number index) (from_small number index) (to_small number index) (amount_small number index)

-- the forms of the program: its definitions, and then as many transfers as its size says
abbrev pub spawn_trees : List Tree
spawn_trees =
    spawn_tree 0 (omega arith) ∷ spawn_tree 1 (omega arith) ∷ spawn_tree 2 (omega arith) ∷ spawn_tree 3 (omega arith)
    ∷ spawn_tree 4 (omega arith) ∷ spawn_tree 5 (omega arith) ∷ spawn_tree 6 (omega arith) ∷ spawn_tree 7 (omega arith) ∷ []

abbrev pub definition_trees : (size : ℕ) → size < 2 ^ 63 → List Tree
definition_trees size small = (move_tree ∷ total_tree ∷ counter_tree ∷ teller_tree ∷ refs_tree ∷ done_tree size small ∷ []) ++ spawn_trees

abbrev pub made_trees : (number size : ℕ) → size < 2 ^ 63 → List Tree
made_trees number size small = definition_trees size small ++ map (transfer_tree number) (range_with_len 0 size)

transfer_texts : (number : ℕ) (indices : List ℕ) → map text_of (map (transfer_tree number) indices) ≡ map (λ index. transfer_line (transfer number index)) indices
transfer_texts number [] = refl
transfer_texts number (index ∷ indices) =
    ap (λ x. x ∷ map text_of (map (transfer_tree number) indices)) (transfer_text number index)
    ∙ ap (λ x. transfer_line (transfer number index) ∷ x) (transfer_texts number indices)

-- two lists are the same where their first ones are, and those behind
pub next : {X : Type 0} {x y : X} {xs ys : List X} → x ≡ y → xs ≡ ys → x ∷ xs ≡ y ∷ ys
next {X} {x} {y} {xs} {ys} e f = ap (λ z. z ∷ xs) e ∙ ap (λ z. y ∷ z) f

spawn_texts : map text_of spawn_trees ≡ map teller_line (range_with_len 0 8)
spawn_texts =
    next (spawn_text 0 (omega arith)) (next (spawn_text 1 (omega arith)) (next (spawn_text 2 (omega arith)) (next (spawn_text 3 (omega arith))
    (next (spawn_text 4 (omega arith)) (next (spawn_text 5 (omega arith)) (next (spawn_text 6 (omega arith)) (next (spawn_text 7 (omega arith)) refl)))))))

definition_texts : (size : ℕ) (small : size < 2 ^ 63) → map text_of (definition_trees size small) ≡ common_lines ++ counter_line size ∷ map teller_line (range_with_len 0 8)
definition_texts size small = next move_text (next total_text (next counter_text (next teller_text (next refs_text (next (done_text size small) spawn_texts)))))

pub made_texts : (number size : ℕ) (small : size < 2 ^ 63) → map text_of (made_trees number size small) ≡ made_lines number size
made_texts number size small =
    map-append text_of (definition_trees size small) (map (transfer_tree number) (range_with_len 0 size))
    ∙ ap (λ x. x ++ map text_of (map (transfer_tree number) (range_with_len 0 size))) (definition_texts size small)
    ∙ ap (λ x. (common_lines ++ counter_line size ∷ map teller_line (range_with_len 0 8)) ++ x) (transfer_texts number (range_with_len 0 size))
