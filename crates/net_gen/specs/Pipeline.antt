-- Meaning. The texts of a pipeline of eight bits and so many stages: its netlist, in which each
-- stage inverts each bit and holds it for one time step, and the task that what goes in comes out.
-- Source: this project's own choice.
use Rattle.std.specs.Prelude.{◌++◌, ◌==◌, ◌%◌, ℕ, zero, suc, if◌then◌else◌, List, [], codes}
use Rattle.std.specs.Fmt.{decimal}

-- what is written for each number below n, in order
abbrev pub for_below : ℕ → (ℕ → List ℕ) → List ℕ
for_below zero text = []
for_below (suc n) text = for_below n text ++ text n

-- the net of bit j behind stage i, and that of its inverse before the latch of stage i; behind
-- stage 0 are the inputs
abbrev pub net_of : ℕ → ℕ → List ℕ
net_of i j = codes "s" ++ (decimal i ++ (codes "_" ++ decimal j))

abbrev pub inverse_of : ℕ → ℕ → List ℕ
inverse_of i j = codes "x" ++ (decimal i ++ (codes "_" ++ decimal j))

-- a line of a word and the eight nets behind stage i
abbrev pub nets_line : List ℕ → ℕ → List ℕ
nets_line word i = word ++ (for_below 8 (λ j. codes " " ++ net_of i j) ++ codes "\n")

-- the gate and the latch of bit j in stage i + 1
abbrev pub bit_lines : ℕ → ℕ → List ℕ
bit_lines i j =
    codes ".names " ++ (net_of i j ++ (codes " " ++ (inverse_of (suc i) j ++ (codes "\n0 1\n.latch "
    ++ (inverse_of (suc i) j ++ (codes " " ++ (net_of (suc i) j ++ codes " 3\n")))))))

-- those of all eight bits in stage i + 1
abbrev pub stage_lines : ℕ → List ℕ
stage_lines i = for_below 8 (bit_lines i)

-- the netlist of n stages
abbrev pub pipeline_net : ℕ → List ℕ
pipeline_net n =
    codes ".model pipe\n" ++ (nets_line (codes ".inputs") 0 ++ (nets_line (codes ".outputs") n
    ++ (for_below n stage_lines ++ codes ".end\n")))

-- bit j goes in at time 0
abbrev pub ant_line : ℕ → List ℕ
ant_line j = codes ".ant "
    ++ (net_of 0 j ++ (codes " = b" ++ (decimal j ++ codes " from 0 to 1\n")))

-- it comes out at time n, inverted n times
abbrev pub con_line : ℕ → ℕ → List ℕ
con_line n j =
    codes ".con " ++ (net_of n j ++ (codes " = " ++ ((if n % 2 == 1 then codes "!" else [])
    ++ (codes "b" ++ (decimal j
    ++ (codes " from " ++ (decimal n ++ (codes " to " ++ (decimal (suc n) ++ codes "\n")))))))))

-- the task file of n stages
abbrev pub pipeline_tasks : ℕ → List ℕ
pipeline_tasks n =
    codes ".vars b0 b1 b2 b3 b4 b5 b6 b7\n.ste pipe\n"
    ++ (for_below 8 ant_line ++ (for_below 8 (con_line n) ++ codes ".end\n"))
