-- The text of the program that is made from a number and a size.
use Rattle.std.specs.Prelude.{ℕ, ◌+◌, ◌*◌, ◌%◌, List, [], ◌∷◌, ◌++◌, map, flat_map, codes, decimal}
use Rattle.std.specs.List.{range_with_len}
use Rattle.program_maker.specs.Draws.{draw}
use Rattle.program_maker.specs.declared.transfer.Transfer.{Transfer}

-- The transfer at this index, from 0. Four draws in a row choose one of 8 tellers, of 100 refs the one that pays and the
-- one that is paid, and an amount from 1 to 50.
abbrev pub transfer : ℕ → ℕ → Transfer
transfer number index = record {
  teller = draw number (4 * index) % 8;
  from = draw number (4 * index + 1) % 100;
  to = draw number (4 * index + 2) % 100;
  amount = draw number (4 * index + 3) % 50 + 1;
}

-- the line that sends the transfer to its teller
abbrev pub transfer_line : Transfer → List ℕ
transfer_line t = codes "(send t" ++ decimal t.teller ++ codes " " ++ decimal t.from ++ codes " " ++ decimal t.to ++ codes " " ++ decimal t.amount ++ codes ")"

-- the lines that stand in each program: how money moves and is summed up, who counts the transfers, who makes them, and
-- the refs
abbrev pub common_lines : List (List ℕ)
common_lines =
    codes "(defn move [from to n] (dosync (alter from - n) (alter to + n) nil))"
    ∷ codes "(defn total [refs i sum] (if (= i (count refs)) sum (total refs (inc i) (+ sum @(nth refs i)))))"
    ∷ codes "(def counter (behavior [left refs] [] (if (= left 1) (println \"total\" (dosync (total refs 0 0))) (become counter (dec left) refs))))"
    ∷ codes "(def teller (behavior [done refs] [i j n] (move (nth refs i) (nth refs j) n) (send done)))"
    ∷ codes "(def refs (loop [v [] i 0] (if (= i 100) v (recur (conj v (ref 1000)) (inc i)))))"
    ∷ []

-- the line of the actor that counts so many transfers
abbrev pub counter_line : ℕ → List ℕ
counter_line size = codes "(def done (spawn counter " ++ decimal size ++ codes " refs))"

-- the line of the teller with this number
abbrev pub teller_line : ℕ → List ℕ
teller_line teller = codes "(def t" ++ decimal teller ++ codes " (spawn teller done refs))"

-- the program's lines: as many transfers as its size says follow its definitions
abbrev pub made_lines : ℕ → ℕ → List (List ℕ)
made_lines number size =
    common_lines ++ counter_line size ∷ map teller_line (range_with_len 0 8)
    ++ map (λ index. transfer_line (transfer number index)) (range_with_len 0 size)

-- one line: its text, and the line feed that ends it
abbrev pub line_of : List ℕ → List ℕ
line_of text = text ++ codes "\n"

-- the whole text of the program
abbrev pub made_text : ℕ → ℕ → List ℕ
made_text number size = flat_map line_of (made_lines number size)
