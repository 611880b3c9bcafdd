-- The core forms of a program that is made.
use Rattle.std.proofs.Common.{◌≡◌, ◌<◌, ◌≤◌, ℕ, ◌+◌, ◌^◌, pos, arith, List, [], ◌∷◌, ◌++◌, refl, ap, ◌∙◌}
use Rattle.std.specs.Prelude.{codes}
use Rattle.std.proofs.lemmas.Fmt.{decimal_digit}
use Rattle.value_core.specs.Place.{Spot}
use Rattle.sexpr_reader.specs.declared.token.Atom.{Atom}
use Rattle.sexpr_reader.specs.declared.token.Atom.TheVariants as single
use Rattle.sexpr_reader.specs.Tokens.{named}
use Rattle.scope_names.specs.Names.{made_name}
use Rattle.made_programs.proofs.CoreTrees.{CoreTree, CoreTrees, core_of}
use Rattle.made_programs.proofs.MadeTrees.{below_eight, counter_tree, done_tree, move_tree, name_of, refs_tree, send_tree, spawn_tree, teller_tree, total_tree}
use Rattle.made_programs.proofs.Placed.{AllPlaces, Places, meant}
use Rattle.made_programs.proofs.Trees.{Tree, Trees}

-- the core form of a tree without shorthands but @
abbrev pub atom_core : Atom → Spot → CoreTree
atom_core single.Nil at = CoreTree.nil at
atom_core (single.Bool b) at = CoreTree.nil at
atom_core (single.Int n) at = CoreTree.integer at n
atom_core (single.Str text) at = CoreTree.string at text
atom_core (single.Kw name) at = CoreTree.nil at
atom_core (single.Sym name) at = CoreTree.word at name

abbrev mutual
  pub plain : (t : Tree) → Places t → CoreTree
  plain (Tree.word name is) p = atom_core (named name) p
  plain (Tree.number n small) p = CoreTree.integer p (pos n)
  plain (Tree.string text is) p = CoreTree.string p text
  plain (Tree.list ts) p = CoreTree.list p.0 (all_plain ts p.1)
  plain (Tree.vector ts) p = CoreTree.vector p.0 (all_plain ts p.1)
  plain (Tree.at_sign t) p = CoreTree.list p.0 (CoreTrees.more (CoreTree.word p.0 (codes "deref")) (CoreTrees.more (plain t p.1) CoreTrees.none))

  pub all_plain : (ts : Trees) → AllPlaces ts → CoreTrees
  all_plain Trees.none p = CoreTrees.none
  all_plain (Trees.more t ts) p = CoreTrees.more (plain t p.0) (all_plain ts p.1)

abbrev pub cores : List CoreTree → CoreTrees
cores [] = CoreTrees.none
cores (c ∷ cs) = CoreTrees.more c (cores cs)

-- a made name whose number is one digit
pub made_text : (n : ℕ) → n < 10 → made_name n ≡ 35 ∷ (48 + n) ∷ []
made_text n small = ap (λ x. codes "#" ++ x) (decimal_digit n small)

abbrev pub made : Spot → (n : ℕ) → n < 10 → CoreTree
made at n small = CoreTree.fresh at n (35 ∷ (48 + n) ∷ []) (made_text n small)

-- an alter of a ref by a primitive with one more argument: each value is bound to a made name
abbrev pub altered : Spot → Spot → Spot → Spot → List ℕ → List ℕ → List ℕ → (n : ℕ) → n + 1 < 10 → CoreTree
altered at ref function argument r f a n small =
    let first = made at n (omega (arith, small)) in
    let second = made at (n + 1) small in
    CoreTree.list at (cores (CoreTree.word at (codes "let")
    ∷ CoreTree.vector at (cores (first ∷ CoreTree.word ref r ∷ second ∷ CoreTree.word argument a ∷ []))
    ∷ CoreTree.list at (cores (CoreTree.word at (codes "ref-set") ∷ first
    ∷ CoreTree.list at (cores (CoreTree.word function f ∷ CoreTree.list at (cores (CoreTree.word at (codes "deref") ∷ first ∷ [])) ∷ second ∷ [])) ∷ []))
    ∷ []))

abbrev pub move_core : Places move_tree → CoreTree
move_core p =
    CoreTree.list p.0 (cores (CoreTree.word p.1.0 (codes "defn") ∷ CoreTree.word p.1.1.0 (codes "move")
    ∷ CoreTree.vector p.1.1.1.0.0 (cores (CoreTree.word p.1.1.1.0.1.0 (codes "from") ∷ CoreTree.word p.1.1.1.0.1.1.0 (codes "to") ∷ CoreTree.word p.1.1.1.0.1.1.1.0 (codes "n") ∷ []))
    ∷ CoreTree.list p.1.1.1.1.0.0 (cores (CoreTree.word p.1.1.1.1.0.1.0 (codes "dosync")
    ∷ altered p.1.1.1.1.0.1.1.0.0 p.1.1.1.1.0.1.1.0.1.1.0 p.1.1.1.1.0.1.1.0.1.1.1.0 p.1.1.1.1.0.1.1.0.1.1.1.1.0 (codes "from") (codes "-") (codes "n") 0 (omega arith)
    ∷ altered p.1.1.1.1.0.1.1.1.0.0 p.1.1.1.1.0.1.1.1.0.1.1.0 p.1.1.1.1.0.1.1.1.0.1.1.1.0 p.1.1.1.1.0.1.1.1.0.1.1.1.1.0 (codes "to") (codes "+") (codes "n") 2 (omega arith)
    ∷ CoreTree.nil p.1.1.1.1.0.1.1.1.1.0 ∷ []))
    ∷ []))

pub move_is : (p : Places move_tree) → (meant move_tree p).core 0 ≡ core_of (move_core p)
move_is p = refl

pub move_made : (p : Places move_tree) → (meant move_tree p).made ≡ 4
move_made p = refl

pub total_is : (p : Places total_tree) (n : ℕ) → (meant total_tree p).core n ≡ core_of (plain total_tree p)
total_is p n = refl

pub counter_is : (p : Places counter_tree) (n : ℕ) → (meant counter_tree p).core n ≡ core_of (plain counter_tree p)
counter_is p n = refl

pub teller_is : (p : Places teller_tree) (n : ℕ) → (meant teller_tree p).core n ≡ core_of (plain teller_tree p)
teller_is p n = refl

pub refs_is : (p : Places refs_tree) (n : ℕ) → (meant refs_tree p).core n ≡ core_of (plain refs_tree p)
refs_is p n = refl

pub done_is : (size : ℕ) (small : size < 2 ^ 63) (p : Places (done_tree size small)) (n : ℕ) → (meant (done_tree size small) p).core n ≡ core_of (plain (done_tree size small) p)
done_is size small p n = refl

-- the name of a teller, whose number is one digit
abbrev pub word_of : ℕ → List ℕ
word_of teller = 116 ∷ (48 + teller) ∷ []

pub name_word : (teller : ℕ) → teller < 8 → name_of teller ≡ word_of teller
name_word teller small = ap (λ x. codes "t" ++ x) (decimal_digit teller (omega (arith, small)))

pub named_word : (teller : ℕ) → teller < 8 → named (name_of teller) ≡ single.Sym (word_of teller)
named_word teller small = ap named (name_word teller small) ∙ below_eight (λ n. named (word_of n) ≡ single.Sym (word_of n)) refl refl refl refl refl refl refl refl teller small

abbrev pub spawn_core : (teller : ℕ) (small : teller < 8) → Places (spawn_tree teller small) → CoreTree
spawn_core teller small p =
    CoreTree.list p.0 (cores (CoreTree.word p.1.0 (codes "def") ∷ CoreTree.word p.1.1.0 (word_of teller)
    ∷ CoreTree.list p.1.1.1.0.0 (cores (CoreTree.word p.1.1.1.0.1.0 (codes "spawn") ∷ CoreTree.word p.1.1.1.0.1.1.0 (codes "teller")
    ∷ CoreTree.word p.1.1.1.0.1.1.1.0 (codes "done") ∷ CoreTree.word p.1.1.1.0.1.1.1.1.0 (codes "refs") ∷ [])) ∷ []))

pub spawn_is : (teller : ℕ) (small : teller < 8) (p : Places (spawn_tree teller small)) (n : ℕ) → (meant (spawn_tree teller small) p).core n ≡ core_of (spawn_core teller small p)
spawn_is teller small p n = rw (named_word teller small) refl

pub spawn_made : (teller : ℕ) (small : teller < 8) (p : Places (spawn_tree teller small)) → (meant (spawn_tree teller small) p).made ≡ 0
spawn_made teller small p = rw (named_word teller small) refl

abbrev pub send_core : (teller from to amount : ℕ) (small : teller < 8) (low : from < 100) (other : to < 100) (few : amount ≤ 50) → Places (send_tree teller from to amount small low other few) → CoreTree
send_core teller from to amount small low other few p =
    CoreTree.list p.0 (cores (CoreTree.word p.1.0 (codes "send") ∷ CoreTree.word p.1.1.0 (word_of teller)
    ∷ CoreTree.integer p.1.1.1.0 (pos from) ∷ CoreTree.integer p.1.1.1.1.0 (pos to) ∷ CoreTree.integer p.1.1.1.1.1.0 (pos amount) ∷ []))

pub send_is : (teller from to amount : ℕ) (small : teller < 8) (low : from < 100) (other : to < 100) (few : amount ≤ 50) (p : Places (send_tree teller from to amount small low other few)) (n : ℕ)
    → (meant (send_tree teller from to amount small low other few) p).core n ≡ core_of (send_core teller from to amount small low other few p)
send_is teller from to amount small low other few p n = rw (named_word teller small) refl

pub send_made : (teller from to amount : ℕ) (small : teller < 8) (low : from < 100) (other : to < 100) (few : amount ≤ 50) (p : Places (send_tree teller from to amount small low other few))
    → (meant (send_tree teller from to amount small low other few) p).made ≡ 0
send_made teller from to amount small low other few p = rw (named_word teller small) refl
