-- Which texts are no line's.
use Rattle.std.proofs.Common.{◌≡◌, ◌≢◌, ℕ, List, ◌++◌, refl, sym, ap, get_or}
use Rattle.std.specs.Prelude.{codes}
use Rattle.value_core.specs.Name.{name_text, IsTextOf}
use Rattle.serial_model.specs.Trace.{IsName}
use Rattle.schedule_text.specs.declared.line.Line.{Line}
use Rattle.schedule_text.specs.declared.line.Line.TheVariants.{Back, Go, Hold, Turn}
use Rattle.schedule_text.specs.Schedule.{IsTextOfLine}
use Rattle.trace_text.proofs.LineShapes.{apart}

-- the word is no name's
abbrev pub IsNoName : List ℕ → Type 0
IsNoName word = (name : List ℕ) → ¬ (IsTextOf name word)

-- the text is no line's
abbrev pub IsNoLine : List ℕ → Type 0
IsNoLine text = (line : Line) → ¬ (IsTextOfLine line text)

named : (name : List ℕ) (word : List ℕ) → IsName name → name_text name ≡ word → IsTextOf name word
named name word is spelled = record { not_empty = is.not_empty; in_range = is.in_range; spelled = spelled }

-- ---- a text that begins with the word of a line, and has no name behind it
pub no_go : (word : List ℕ) → IsNoName word → IsNoLine (codes "go " ++ word)
no_go word none (Go name) is = let whole = is.spelled in none name (named name word is.is_line (let same : name_text name ≡ word = cc in same))
no_go word none (Hold name) is = apart 104 103 refl (ap (λ t. get_or t 0 0) is.spelled)
no_go word none (Back name) is = apart 98 103 refl (ap (λ t. get_or t 0 0) is.spelled)
no_go word none (Turn name) is = apart 116 103 refl (ap (λ t. get_or t 0 0) is.spelled)

pub no_hold : (word : List ℕ) → IsNoName word → IsNoLine (codes "hold " ++ word)
no_hold word none (Go name) is = apart 103 104 refl (ap (λ t. get_or t 0 0) is.spelled)
no_hold word none (Hold name) is = let whole = is.spelled in none name (named name word is.is_line (let same : name_text name ≡ word = cc in same))
no_hold word none (Back name) is = apart 98 104 refl (ap (λ t. get_or t 0 0) is.spelled)
no_hold word none (Turn name) is = apart 116 104 refl (ap (λ t. get_or t 0 0) is.spelled)

pub no_back : (word : List ℕ) → IsNoName word → IsNoLine (codes "back " ++ word)
no_back word none (Go name) is = apart 103 98 refl (ap (λ t. get_or t 0 0) is.spelled)
no_back word none (Hold name) is = apart 104 98 refl (ap (λ t. get_or t 0 0) is.spelled)
no_back word none (Back name) is = let whole = is.spelled in none name (named name word is.is_line (let same : name_text name ≡ word = cc in same))
no_back word none (Turn name) is = apart 116 98 refl (ap (λ t. get_or t 0 0) is.spelled)

pub no_turn : (word : List ℕ) → IsNoName word → IsNoLine (codes "turn " ++ word)
no_turn word none (Go name) is = apart 103 116 refl (ap (λ t. get_or t 0 0) is.spelled)
no_turn word none (Hold name) is = apart 104 116 refl (ap (λ t. get_or t 0 0) is.spelled)
no_turn word none (Back name) is = apart 98 116 refl (ap (λ t. get_or t 0 0) is.spelled)
no_turn word none (Turn name) is = let whole = is.spelled in none name (named name word is.is_line (let same : name_text name ≡ word = cc in same))

-- the text begins with no word that a line begins with
pub record BeginsNoLine (text : List ℕ) : Type 0 where
  pub not_go : (rest : List ℕ) → text ≢ codes "go " ++ rest
  pub not_hold : (rest : List ℕ) → text ≢ codes "hold " ++ rest
  pub not_back : (rest : List ℕ) → text ≢ codes "back " ++ rest
  pub not_turn : (rest : List ℕ) → text ≢ codes "turn " ++ rest

pub no_other : (text : List ℕ) → BeginsNoLine text → IsNoLine text
no_other text none (Go name) is = none.not_go (name_text name) (sym is.spelled)
no_other text none (Hold name) is = none.not_hold (name_text name) (sym is.spelled)
no_other text none (Back name) is = none.not_back (name_text name) (sym is.spelled)
no_other text none (Turn name) is = none.not_turn (name_text name) (sym is.spelled)

-- ---- a text that begins with the word of a line, and has a name behind it
pub is_named : (name word : List ℕ) → IsTextOf name word → IsName name
is_named name word is = record { not_empty = is.not_empty; in_range = is.in_range }
