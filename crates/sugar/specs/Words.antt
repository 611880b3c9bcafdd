-- Reserved words.
use Rattle.std.specs.Prelude.{ℕ, Bool, List, [], ◌∷◌, codes}
use Rattle.std.specs.List.{list_any}
use Rattle.std.specs.Str.{bytes_eq}

-- the reserved words that are no primitives
abbrev pub form_words : List (List ℕ)
form_words =
    codes "println" ∷ codes "do" ∷ codes "if" ∷ codes "let"
    ∷ codes "ref" ∷ codes "deref" ∷ codes "ref-set"
    ∷ codes "fork" ∷ codes "join" ∷ codes "dosync"
    ∷ codes "spawn" ∷ codes "become" ∷ codes "send" ∷ codes "self"
    ∷ codes "when" ∷ codes "cond" ∷ codes "and" ∷ codes "or" ∷ codes "alter" ∷ codes "loop" ∷ codes "recur"
    ∷ codes "def" ∷ codes "defn" ∷ codes "behavior" ∷ []

abbrev pub is_form_word : List ℕ → Bool
is_form_word word = list_any (bytes_eq word) form_words
