-- Inputs that are written out as lines are read back.
use Rattle.std.proofs.Common.{◌≡◌, ◌≢◌, ◌≤◌, ◌+◌, ◌*◌, ℕ, suc, List, [], ◌∷◌, ◌++◌, length, map, Bool, true, false, Option, Some, None, arith, refl, sym, ap, ◌∙◌, eq-eqb, ne_eqb, le-ltb, get_or, mul-le-mul_right}
use Rattle.std.specs.Prelude.{All, AllPairs, IsTrue, if◌then◌else◌, nat_eq, codes}
use Rattle.std.specs.List.{list_all, list_any}
use Rattle.std.proofs.lemmas.List.{length-map}
use Rattle.std.proofs.lemmas.List.Folds.{list_any-append}
use Rattle.ste_base.specs.declared.id.NodeId.{NodeId}
use Rattle.blif_lines.specs.declared.lines.Line.{Line}
use Rattle.net_core.specs.declared.raw.RawNet.{RawNet}
use Rattle.clock_step.specs.Forms.{word_bits, is_zero_or_one, is_one, order_of, row_of}
use Rattle.clock_step.specs.Order.{first_double_net, first_driven, first_unknown_net, is_undriven}
use Rattle.clock_step.specs.Faults.{is_too_many, rows_fault}
use Rattle.clock_step.specs.Laws.{WrittenIsRead, word_of}

-- names of different nodes have no double
no_double : (net_of : List ℕ → Option ℕ) (nets : List ℕ) (names : List (List ℕ)) (nodes : List NodeId) → map net_of names ≡ map (λ node. Some node.0) nodes → AllPairs (λ one other. one.0 ≢ other.0) nodes → All (λ node. list_any (nat_eq node.0) nets ≡ false) nodes → first_double_net net_of nets names ≡ None
no_double net_of nets [] nodes e apart new = refl
no_double net_of nets (name ∷ names) [] e apart new = absurd (cc e)
no_double net_of nets (name ∷ names) (node ∷ nodes) e apart new =
    let here : net_of name ≡ Some node.0 = (cc e) in
    let rest : map net_of names ≡ map (λ n. Some n.0) nodes = (cc e) in
    let absent = new 0 node (omega arith) in
    let later = no_double net_of (nets ++ node.0 ∷ []) names nodes rest (λ i j d l m. apart (suc i) (suc j) d (omega arith) (omega arith))
    (λ k d l.
    let other = get_or nodes k d in
    let old : list_any (nat_eq other.0) nets ≡ false = new (suc k) d (omega arith) in
    let differs = ne_eqb other.0 node.0 (λ same. apart 0 (suc k) d (omega arith) (omega arith) (sym same)) in
    list_any-append (nat_eq other.0) nets (node.0 ∷ []) ∙ rw (old, differs) refl) in
    rw (here, absent) later

-- names of nodes each name a net
no_unknown : (net_of : List ℕ → Option ℕ) (names : List (List ℕ)) (nodes : List NodeId) → map net_of names ≡ map (λ node. Some node.0) nodes → first_unknown_net net_of names ≡ None
no_unknown net_of [] nodes e = refl
no_unknown net_of (name ∷ names) [] e = absurd (cc e)
no_unknown net_of (name ∷ names) (node ∷ nodes) e =
    let here : net_of name ≡ Some node.0 = (cc e) in
    let rest : map net_of names ≡ map (λ n. Some n.0) nodes = (cc e) in
    rw here (no_unknown net_of names nodes rest)

-- names of inputs and free nets name no driven net
no_driven : (net_of : List ℕ → Option ℕ) (net : RawNet) (names : List (List ℕ)) (nodes : List NodeId) → map net_of names ≡ map (λ node. Some node.0) nodes → All (λ node. IsTrue (is_undriven net node.0)) nodes → first_driven net_of net names ≡ None
no_driven net_of net [] nodes e all = refl
no_driven net_of net (name ∷ names) [] e all = absurd (cc e)
no_driven net_of net (name ∷ names) (node ∷ nodes) e all =
    let here : net_of name ≡ Some node.0 = (cc e) in
    let rest : map net_of names ≡ map (λ n. Some n.0) nodes = (cc e) in
    let undriven : is_undriven net node.0 ≡ true = all 0 node (omega arith) in
    rw (here, undriven) (no_driven net_of net names nodes rest (λ k d l. all (suc k) d (omega arith)))

are_bits : (row : List Bool) → list_all is_zero_or_one (map (λ b. if b then 49 else 48) row) ≡ true
are_bits [] = refl
are_bits (true ∷ row) = are_bits row
are_bits (false ∷ row) = are_bits row

ones_back : (row : List Bool) → map is_one (map (λ b. if b then 49 else 48) row) ≡ row
ones_back [] = refl
ones_back (true ∷ row) = ap (λ (bits : List Bool). true ∷ bits) (ones_back row)
ones_back (false ∷ row) = ap (λ (bits : List Bool). false ∷ bits) (ones_back row)

-- a word that a row is written as spells it
row_back : (width : ℕ) (row : List Bool) → length row ≡ width → word_bits width (word_of row) ≡ Some row
row_back width [] long = rw (← long) refl
row_back width (bit ∷ row) long =
    let word : List ℕ = map (λ b. if b then 49 else 48) (bit ∷ row) in
    let some = ne_eqb width 0 (omega arith) in
    let wide = eq-eqb (length word) width (length-map {B = ℕ} (bit ∷ row) (λ b. if b then 49 else 48) ∙ long) in
    let bits = are_bits (bit ∷ row) in
    let back = ones_back (bit ∷ row) in
    rw (some, wide, bits, back) refl

few : (nets number most : ℕ) → number ≤ most → most ≤ 10000 → most * nets ≤ 100000000 → is_too_many nets number ≡ false
few nets number most l m n =
    let times : number * nets ≤ most * nets = mul-le-mul_right nets l in
    let rows = le-ltb 10000 number (omega arith) in
    let cells = le-ltb 100000000 (number * nets) (omega (arith, times, n)) in
    rw (rows, cells) refl

-- rows that are not too many have no fault
no_row_fault : (width nets before most : ℕ) (rows : List (List Bool)) (lines : List Line) → map (λ line. line.words) lines ≡ map (λ row. word_of row ∷ []) rows → All (λ row. length row ≡ width) rows → before + length rows ≤ most → most ≤ 10000 → most * nets ≤ 100000000 → (rows_fault width nets before lines ≡ None) × (map Some rows ≡ map (λ line. row_of width line.words) lines)
no_row_fault width nets before most [] [] e wide l m n = (refl, refl)
no_row_fault width nets before most [] (line ∷ lines) e wide l m n = absurd (cc e)
no_row_fault width nets before most (row ∷ rows) [] e wide l m n = absurd (cc e)
no_row_fault width nets before most (row ∷ rows) (line ∷ lines) e wide l m n =
    let words : line.words ≡ word_of row ∷ [] = (cc e) in
    let rest : map (λ k. k.words) lines ≡ map (λ r. word_of r ∷ []) rows = (cc e) in
    let later = no_row_fault width nets (suc before) most rows lines rest (λ k d h. wide (suc k) d (omega arith)) (omega arith) m n in
    let back = row_back width row (wide 0 row (omega arith)) in
    let fits = few nets (suc before) most (omega arith) m n in
    (rw (words, back, fits) later.0, rw (words, back) (ap (λ (rs : List (Option (List Bool))). Some row ∷ rs) later.1))

pub written_is_read : WrittenIsRead
written_is_read net_of net names inputs [] nets undriven few_rows few_cells e = absurd (cc e)
written_is_read net_of net names inputs (line ∷ lines) nets undriven few_rows few_cells e =
    let words : line.words ≡ codes ".order" ∷ names = (cc e) in
    let rest : map (λ k. k.words) lines ≡ map (λ row. word_of row ∷ []) inputs.rows = (cc e) in
    let order : order_of line.words ≡ Some names = rw words refl in
    let width : length names ≡ length inputs.nodes = sym (length-map names net_of) ∙ ap length nets ∙ length-map inputs.nodes (λ (node : NodeId). Some node.0) in
    let wide : All (λ row. length row ≡ length names) inputs.rows = λ k d l. inputs.wide k d l ∙ sym width in
    let rows = no_row_fault (length names) net.nets 0 (length inputs.rows) inputs.rows lines rest wide (omega arith) few_rows few_cells in
    let double = no_double net_of [] names inputs.nodes nets inputs.different (λ k d l. refl) in
    let unknown = no_unknown net_of names inputs.nodes nets in
    let driven = no_driven net_of net names inputs.nodes nets undriven in
    (rw (order, double, unknown, driven) rows.0, record { nodes = rw order (sym nets); rows = rw order rows.1 })
