-- Tests that hold, and what they tell.
use Rattle.std.proofs.Common.{◌≡◌, ◌≤◌, Bool, true, false, T, refl, arith}
use Rattle.std.specs.Prelude.{◌&&◌}
use Rattle.std.specs.declared.cmp.Ordering.{Ordering}
use Rattle.std.specs.declared.cmp.Ordering.TheVariants.{Less, Equal, Greater}
use Rattle.std.specs.Ordering.{is_lt, ordering_index}

pub both : (a b : Bool) → T a → T b → T (a && b)
both true b p q = q
both false b p q = p

pub first_of : (a b : Bool) → T (a && b) → T a
first_of true b t = tt
first_of false b t = absurd t

pub second_of : (a b : Bool) → T (a && b) → T b
second_of true b t = t
second_of false b t = absurd t

pub is_less : (o : Ordering) → T (is_lt o) → o ≡ Less
is_less Less p = refl
is_less Equal p = absurd p
is_less Greater p = absurd p

-- where an answer rises to the next
pub rising : (a b : Ordering) → (b ≡ Less → a ≡ Less) → (b ≡ Equal → a ≡ Less) → ordering_index a ≤ ordering_index b
rising a Less below equal = rw (below refl) (omega arith)
rising a Equal below equal = rw (equal refl) (omega arith)
rising Less Greater below equal = omega arith
rising Equal Greater below equal = omega arith
rising Greater Greater below equal = omega arith
