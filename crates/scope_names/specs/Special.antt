-- The words of the special forms.
use Rattle.std.specs.Prelude.{ℕ, ◌||◌, if◌then◌else◌, List, Option, None, Some, codes}
use Rattle.std.specs.Str.{bytes_eq}
use Rattle.scope_names.specs.declared.special.Special.{Special}
use Rattle.scope_names.specs.declared.special.Special.TheVariants as special

-- the forms that bind names or choose what is evaluated
abbrev pub plain_special : List ℕ → Option Special
plain_special word =
    if bytes_eq word (codes "do") then Some special.Do
    else (if bytes_eq word (codes "if") then Some special.If
    else (if bytes_eq word (codes "let") then Some special.Let
    else (if bytes_eq word (codes "loop") then Some special.Loop
    else (if bytes_eq word (codes "recur") then Some special.Recur
    else None))))

-- the forms of actors
abbrev pub actor_special : List ℕ → Option Special
actor_special word =
    if bytes_eq word (codes "spawn") then Some special.Spawn
    else (if bytes_eq word (codes "become") then Some special.Become
    else (if bytes_eq word (codes "send") then Some special.Send
    else (if bytes_eq word (codes "self") then Some special.SelfActor
    else None)))

-- the forms that ask for something
abbrev pub effect_special : List ℕ → Option Special
effect_special word =
    if bytes_eq word (codes "println") then Some special.Println
    else (if bytes_eq word (codes "ref") then Some special.Ref
    else (if bytes_eq word (codes "deref") then Some special.Deref
    else (if bytes_eq word (codes "ref-set") then Some special.RefSet
    else (if bytes_eq word (codes "fork") then Some special.Fork
    else (if bytes_eq word (codes "join") then Some special.Join
    else (if bytes_eq word (codes "dosync") then Some special.Dosync
    else actor_special word))))))

-- definitions are no expressions, and when and alter are written out before
abbrev pub no_expression : List ℕ → Option Special
no_expression word =
    if bytes_eq word (codes "def") || bytes_eq word (codes "defn") || bytes_eq word (codes "behavior")
    || bytes_eq word (codes "when") || bytes_eq word (codes "alter")
    then Some special.NoExpression else None

-- the chains of choices
abbrev pub chain_special : List ℕ → Option Special
chain_special word =
    if bytes_eq word (codes "cond") then Some special.Cond
    else (if bytes_eq word (codes "and") then Some special.And
    else (if bytes_eq word (codes "or") then Some special.Or
    else no_expression word))

abbrev pub first_special : Option Special → Option Special → Option Special
first_special (Some special) behind = Some special
first_special None behind = behind

abbrev pub special_behind : List ℕ → Option Special
special_behind word = first_special (effect_special word) (chain_special word)

-- the special form that has this word, where there is one
unfoldable pub special_of : List ℕ → Option Special
special_of word = first_special (plain_special word) (special_behind word)
