-- How long the texts can be.
use Rattle.std.proofs.Common.{◌≤◌, ◌<◌, ℕ, zero, suc, ◌+◌, ◌*◌, ◌%◌, ◌==◌, Bool, true, false, if◌then◌else◌, List, [], ◌++◌, length, arith}
use Rattle.std.specs.Prelude.{codes}
use Rattle.std.specs.Fmt.{decimal}
use Rattle.std.proofs.lemmas.Fmt.{length-decimal-le}
use Rattle.std.proofs.lemmas.List.{length-append}
use Rattle.net_gen.specs.Pipeline.{ant_line, bit_lines, con_line, for_below, inverse_of, net_of, nets_line, pipeline_net, pipeline_tasks, stage_lines}

-- two texts in a row
short_both : (a b : List ℕ) (m n : ℕ) → length a ≤ m → length b ≤ n → length (a ++ b) ≤ m + n
short_both a b m n k l = rw (length-append a b) (omega (arith, k, l))

-- a word, a name and a text in a row
short_then : (word name rest : List ℕ) (m n : ℕ) → length name ≤ m → length rest ≤ n → length (word ++ (name ++ rest)) ≤ length word + (m + n)
short_then word name rest m n k l = rw (length-append word (name ++ rest)) (omega (arith, short_both name rest m n k l))

-- so many texts
short_below : (text : ℕ → List ℕ) (most n : ℕ) → ((i : ℕ) → i < n → length (text i) ≤ most) → length (for_below n text) ≤ n * most
short_below text most zero short = omega arith
short_below text most (suc n) short = rw (length-append (for_below n text) (text n)) (omega (arith, short_below text most n (λ i l. short i (omega (arith, l))), short n (omega arith)))

-- a number
short_number : (n : ℕ) → n ≤ 1001 → length (decimal n) ≤ 4
short_number n l = length-decimal-le 4 n (omega arith) (omega (arith, l)) (omega (arith, l))

-- a letter and two numbers
short_name : (letter : List ℕ) (i j : ℕ) → i ≤ 1001 → j < 8 → length (letter ++ (decimal i ++ (codes "_" ++ decimal j))) ≤ length letter + 9
short_name letter i j k l =
    short_then letter (decimal i) (codes "_" ++ decimal j) 4 5 (short_number i k)
    (short_both (codes "_") (decimal j) 1 4 (omega arith) (short_number j (omega (arith, l))))

-- the name of a net
short_net : (i j : ℕ) → i ≤ 1001 → j < 8 → length (net_of i j) ≤ 10
short_net i j k l = short_name (codes "s") i j k l

-- the name of an inverse
short_inverse : (i j : ℕ) → i ≤ 1001 → j < 8 → length (inverse_of i j) ≤ 10
short_inverse i j k l = short_name (codes "x") i j k l

-- the lines of a bit in a stage
short_bit : (i j : ℕ) → i < 1000 → j < 8 → length (bit_lines i j) ≤ 64
short_bit i j k l =
    let here : i ≤ 1001 = omega (arith, k) in
    let next : suc i ≤ 1001 = omega (arith, k) in
    let three = codes " " ++ (net_of (suc i) j ++ codes " 3\n") in
    let two = codes "\n0 1\n.latch " ++ (inverse_of (suc i) j ++ three) in
    let one = codes " " ++ (inverse_of (suc i) j ++ two) in
    short_then (codes ".names ") (net_of i j) one 10 47 (short_net i j here l)
    (short_then (codes " ") (inverse_of (suc i) j) two 10 36 (short_inverse (suc i) j next l)
    (short_then (codes "\n0 1\n.latch ") (inverse_of (suc i) j) three 10 14 (short_inverse (suc i) j next l)
    (short_then (codes " ") (net_of (suc i) j) (codes " 3\n") 10 3 (short_net (suc i) j next l) (omega arith))))

-- a line of a word and eight nets
short_nets : (word : List ℕ) (i : ℕ) → i ≤ 1000 → length (nets_line word i) ≤ length word + 89
short_nets word i k =
    short_then word (for_below 8 (λ j. codes " " ++ net_of i j)) (codes "\n") 88 1
    (short_below (λ j. codes " " ++ net_of i j) 11 8 (λ j l. short_both (codes " ") (net_of i j) 1 10 (omega arith) (short_net i j (omega (arith, k)) l)))
    (omega arith)

-- the netlist
pub short_netlist : (n : ℕ) → n ≤ 1000 → length (pipeline_net n) ≤ 512210
short_netlist n k =
    let two = for_below n stage_lines ++ codes ".end\n" in
    let one = nets_line (codes ".outputs") n ++ two in
    short_then (codes ".model pipe\n") (nets_line (codes ".inputs") 0) one 96 512102 (short_nets (codes ".inputs") 0 (omega arith))
    (short_both (nets_line (codes ".outputs") n) two 97 512005 (short_nets (codes ".outputs") n k)
    (short_both (for_below n stage_lines) (codes ".end\n") 512000 5
    (omega (arith, k, short_below stage_lines 512 n (λ i l. short_below (bit_lines i) 64 8 (λ j m. short_bit i j (omega (arith, k, l)) m))))
    (omega arith)))

-- the line by which a bit goes in
short_ant : (j : ℕ) → j < 8 → length (ant_line j) ≤ 36
short_ant j l =
    let one = codes " = b" ++ (decimal j ++ codes " from 0 to 1\n") in
    short_then (codes ".ant ") (net_of 0 j) one 10 21 (short_net 0 j (omega arith) l)
    (short_then (codes " = b") (decimal j) (codes " from 0 to 1\n") 4 13 (short_number j (omega (arith, l))) (omega arith))

-- the sign of an inverted bit
short_sign : (odd : Bool) → length (if odd then codes "!" else []) ≤ 1
short_sign true = omega arith
short_sign false = omega arith

-- the line by which a bit comes out
short_con : (n j : ℕ) → n ≤ 1000 → j < 8 → length (con_line n j) ≤ 43
short_con n j k l =
    let here : n ≤ 1001 = omega (arith, k) in
    let next : suc n ≤ 1001 = omega (arith, k) in
    let sign = if n % 2 == 1 then codes "!" else [] in
    let four = codes " to " ++ (decimal (suc n) ++ codes "\n") in
    let three = codes " from " ++ (decimal n ++ four) in
    let two = codes "b" ++ (decimal j ++ three) in
    let one = codes " = " ++ (sign ++ two) in
    short_then (codes ".con ") (net_of n j) one 10 28 (short_net n j here l)
    (short_then (codes " = ") sign two 1 24 (short_sign (n % 2 == 1))
    (short_then (codes "b") (decimal j) three 4 19 (short_number j (omega (arith, l)))
    (short_then (codes " from ") (decimal n) four 4 9 (short_number n here)
    (short_then (codes " to ") (decimal (suc n)) (codes "\n") 4 1 (short_number (suc n) next) (omega arith)))))

-- the task file
pub short_task : (n : ℕ) → n ≤ 1000 → length (pipeline_tasks n) ≤ 677
short_task n k =
    let one = for_below 8 (con_line n) ++ codes ".end\n" in
    short_then (codes ".vars b0 b1 b2 b3 b4 b5 b6 b7\n.ste pipe\n") (for_below 8 ant_line) one 288 349 (short_below ant_line 36 8 short_ant)
    (short_both (for_below 8 (con_line n)) (codes ".end\n") 344 5 (short_below (con_line n) 43 8 (λ j l. short_con n j k l)) (omega arith))
