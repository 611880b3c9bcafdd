-- The numbers of refusals of forms.
use Rattle.std.specs.Prelude.{ℕ}
use Rattle.scope_refusals.specs.declared.kind.ScopeKind.{ScopeKind}
use Rattle.scope_refusals.specs.declared.kind.ScopeKind.TheVariants.{Unknown, Twice, Arity, BadForm, EarlyGlobal, TooManyNodes}

-- the number of a refusal of the forms; at one place the lowest counts
abbrev pub kind_number : ScopeKind → ℕ
kind_number Unknown = 1
kind_number Twice = 2
kind_number Arity = 3
kind_number BadForm = 4
kind_number EarlyGlobal = 5
kind_number TooManyNodes = 6
