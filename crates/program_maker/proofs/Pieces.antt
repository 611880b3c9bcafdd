-- Texts that are put together from pieces.
use Rattle.std.proofs.Common.{◌≡◌, ℕ, List, [], ◌++◌, append_assoc, append-nil}

pub three_pieces : (a b c : List ℕ) → a ++ (b ++ (c ++ [])) ≡ (a ++ b) ++ c
three_pieces a b c = simp (append_assoc, append-nil)

pub nine_pieces : (a b c d e f g h i : List ℕ) → a ++ (b ++ (c ++ (d ++ (e ++ (f ++ (g ++ (h ++ (i ++ [])))))))) ≡ (((((((a ++ b) ++ c) ++ d) ++ e) ++ f) ++ g) ++ h) ++ i
nine_pieces a b c d e f g h i = simp (append_assoc, append-nil)
