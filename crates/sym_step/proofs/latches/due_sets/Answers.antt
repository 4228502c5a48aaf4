use Rattle.std.proofs.Common.{◌≡◌, ◌≢◌, ◌+◌, ◌<◌, ◌≤◌, ℕ, All, refl, List, Option, None, Some, ap, arith, get_or, inl, inr, length, map, subst, sym, ◌∙◌, false}
use Rattle.std.specs.Prelude.{◌⊎◌, IfSome, IsTrue}
use Rattle.std.specs.Global.{Vec}
use Rattle.std.proofs.lemmas.List.{get_or_default}
use Rattle.ste_base.specs.declared.id.NodeId.{NodeId}
use Rattle.net_core.specs.declared.raw.Latch.{Latch}
use Rattle.net_core.specs.declared.raw.Init.TheVariants.{Zero}
use Rattle.net_core.specs.declared.raw.Gate.{Gate}
use Rattle.dual_rail.specs.declared.rails.Rails.{Rails}
use Rattle.sym_step.specs.declared.board.Board.{Board}
use Rattle.sym_step.specs.declared.latches.LatchSet.{LatchSet}
use Rattle.gate_sets.specs.declared.net_rails.NetRails.{NetRails}
use Rattle.sym_step.specs.Frame.{bare, input_rails}
use Rattle.sym_step.specs.private.Frames.{AreCarried, IsCarried}
use Rattle.sym_step.specs.private.Demands.{nodes_of}
use Rattle.sym_step.specs.private.Latches.{IsCopied, IsInPlace, IsSetOf, latch_set}
use Rattle.gate_sets.specs.NetSets.{net_at}
use Rattle.sym_step.specs.private.Readers.{AreReaders, flag_at}
use Rattle.sym_step.proofs.Latched.{Grows, carried_next, in_place, next_at, own_next, own_set, places_next, places_to}
use Rattle.net_core.specs.Possible.{is_weakened}
use Rattle.sym_step.specs.Step.{ids_of}
use Rattle.sym_step.specs.private.Latches.{rails_unless}
use Rattle.sym_step.proofs.latches.due_sets.Goals as goal
use Rattle.sym_step.proofs.latches.due_sets.Goals.{in-Some+in_ok-push, in_default}

pub loop-l-init : goal.loop-l-init
loop-l-init c =
    let net = c.args.net.now in
    let asked : List NodeId = nodes_of c.args.demands.now.weak c.args.demands.now.cuts in
    let first : Board = c.args.board.now in
    let next : List Rails = map (input_rails (map bare first.nets.items)) net.raw.latches in
    let q = c.next_latch-l.ensures in
    let same = ap (λ (xs : List Latch). length xs) c.latches-latches.ensures in
    record {
      within = omega (arith, same, q.within);
      nets = refl;
      readers = refl;
      full = refl;
      order = refl;
      long = refl;
      rest = λ k away. refl;
      own = subst (All (IsSetOf net.raw next c.args.demands.now.weak first.nets.items)) (sym c.no_sets-sets.ensures) (λ k d lt. absurd (omega (arith, lt)));
      each = λ was.
          places_to net.raw asked first c.no_sets-sets.result.items 0 c.next_latch-l.result net.in_range c.requires.nets was
          (λ k le lt. subst (λ (m : ℕ). flag_at first.due.flags.items (m + k) ≡ false) c.requires.gates (q.unmarked k le lt)) (λ k d lt. absurd (omega (arith, lt)));
      carried = λ was. was;
    }

pub loop-l-preserved : goal.loop-l-preserved
loop-l-preserved c =
    let net = c.args.net.now in
    let asked : List NodeId = nodes_of c.args.demands.now.weak c.args.demands.now.cuts in
    let latches : List Latch = net.raw.latches in
    let zeroth : Latch = record { input = record { 0 = 0 }; output = record { 0 = 0 }; init = Zero } in
    let n : ℕ = c.loop-l.l in
    let first : Board = c.args.board.now in
    let old : Board = c.loop-l.board in
    let new : Board = c.due_set.new.board in
    let nets : List NetRails = first.nets.items in
    let next : List Rails = map (input_rails (map bare nets)) latches in
    let sets : List LatchSet = c.loop-l.sets.items in
    let more : List LatchSet = c.match-due_set.sets.items in
    let inv = c.loop-l.invariant in
    let p = c.due_set.ensures in
    let inside : n < length latches = let same = ap (λ (xs : List Latch). length xs) c.latches-latches.ensures in omega (arith, same, c.loop-l-test.true) in
    let latch : Latch = get_or c.latches-latches.result.now n zeroth in
    let is : latch ≡ get_or latches n latch = ap (λ (xs : List Latch). get_or xs n zeroth) c.latches-latches.ensures ∙ get_or_default latches n zeroth latch inside in
    let grows : Grows c.due_set.result sets more = elim c.match-due_set.branch [
      | in-Some+in_ok-push w ↦ inl (w.in-Some.set, w.in-Some.is, ap (λ v. v.items) w.sets-is ∙ w.in_ok-push.ensures.items)
      | in_default w ↦ inr (w.in_default.is, ap (λ v. v.items) w.sets-is)
    ] in
    let gates : ℕ = length net.raw.gates in
    let same_gates : length c.gates-gates.result.now ≡ gates = ap (λ (xs : List Gate). length xs) c.gates-gates.ensures in
    let some_is : (set : LatchSet) → c.due_set.result ≡ Some set → set ≡ latch_set c.args.demands.now.weak nets latch =
    λ set e. subst (λ (o : Option LatchSet). IfSome o (λ x. x ≡ latch_set c.args.demands.now.weak old.nets.items latch)) e p.some ∙ ap (λ (v : Vec NetRails). latch_set c.args.demands.now.weak v.items latch) inv.nets in
    let place : AreCarried net.raw asked first → c.due_set.result ≡ None → IsInPlace next asked nets n latch = λ was e. elim (p.none e) [
      | inl none ↦
          let flag : flag_at first.due.flags.items (gates + n) ≡ false = sym (inv.rest (gates + n) (λ j lt same. absurd (omega (arith, lt, same)))) ∙ subst (λ (m : ℕ). flag_at old.due.flags.items (m + n) ≡ false) same_gates none in
          let h : IsCarried asked first (gates + n) latch = subst (IsCarried asked first (gates + n)) (sym is) (was n latch inside flag) in
          in_place net.raw asked nets n latch net.in_range c.requires.nets inside is h.uncut h.same
      | inr copied ↦
          in_place net.raw asked nets n latch net.in_range c.requires.nets inside is copied.0
          (subst (λ (v : Vec NetRails). net_at v.items latch.output.0 ≡ net_at v.items latch.input.0) inv.nets copied.1)
    ] in
    let q = c.next_latch-l-in-loop-l.ensures in
    let rest : (k : ℕ) → ((j : ℕ) → j < n + 1 → k ≢ gates + j) → flag_at new.due.flags.items k ≡ flag_at first.due.flags.items k =
    λ k away. p.others k (λ e. away n (omega arith) (e ∙ ap (λ (m : ℕ). m + n) same_gates)) ∙ inv.rest k (λ j lt. away j (omega (arith, lt))) in
    let count : length new.due.order.items ≡ gates = ap (λ (v : Vec ℕ). length v.items) (p.order ∙ inv.order) ∙ c.requires.gates in
    let none : (k : ℕ) → n + 1 ≤ k → k < c.next_latch-l-in-loop-l.result → flag_at first.due.flags.items (gates + k) ≡ false =
    λ k le lt. sym (rest (gates + k) (λ j less same. absurd (omega (arith, less, same, le)))) ∙ subst (λ (m : ℕ). flag_at new.due.flags.items (m + k) ≡ false) count (q.unmarked k le lt) in
    record {
      within = let same = ap (λ (xs : List Latch). length xs) c.latches-latches.ensures in omega (arith, same, q.within);
      nets = p.nets ∙ inv.nets;
      readers = p.readers ∙ inv.readers;
      full = p.full ∙ inv.full;
      order = p.order ∙ inv.order;
      long = p.long ∙ inv.long;
      rest = λ k away. rest k (λ j lt. away j (omega (arith, lt, q.behind)));
      own = own_next net.raw next c.args.demands.now.weak nets c.due_set.result sets more grows
          (λ set e. own_set net.raw next c.args.demands.now.weak nets n latch set inside is (ap (λ (x : LatchSet). x.output) (some_is set e))
          (λ d. ap (rails_unless (is_weakened (ids_of c.args.demands.now.weak) latch.output.0)) (next_at net.raw nets n latch d net.in_range c.requires.nets inside is) ∙ ap (λ (x : LatchSet). x.rails) (sym (some_is set e)))
          (ap (λ (x : LatchSet). x.given) (sym (some_is set e)))) inv.own;
      each = λ was.
          places_to net.raw asked first more (n + 1) c.next_latch-l-in-loop-l.result net.in_range c.requires.nets was none
          (places_next net.raw next asked nets c.due_set.result sets more n latch inside is grows (λ set e. ap (λ (x : LatchSet). x.output) (some_is set e)) (place was) (inv.each was));
      carried = λ was.
          carried_next net.raw asked c.args.listed old new n latch inside is (λ told. subst (AreReaders net.raw) (sym inv.readers) (c.requires.lists told)) p.nets p.readers
          (λ k away. p.others k (λ e. away (e ∙ ap (λ (m : ℕ). m + n) same_gates)))
          (subst (λ (m : ℕ). flag_at new.due.flags.items (m + n) ≡ false → (flag_at old.due.flags.items (m + n) ≡ false) ⊎ (IsTrue c.args.listed × IsCopied asked old.nets.items latch)) same_gates p.cleared) (inv.carried was);
    }
