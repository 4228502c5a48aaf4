-- What two seats hold that are joined.
use Rattle.std.proofs.Common.{◌≡◌, ◌≢◌, ◌⊎◌, ℕ, zero, suc, ◌<◌, ◌++◌, length-append, sym, ◌∙◌, ap, subst, inl, inr, ⊎_elim, refl, arith}
use Rattle.atomic_table.specs.Seated.{TableId}
use Rattle.dd_table.specs.declared.views.View.{View}
use Rattle.dd_table.specs.declared.session.Session.TheInside.{Inside}
use Rattle.dd_table.specs.Views.{joined_view}
use Rattle.dd_table.specs.Rules.{count_of}
use Rattle.dd_table.specs.Tells.{HoldsNothing, IsHeldByOne, IsSound}
use Rattle.dd_table.specs.Inside.{IsSession}
use Rattle.dd_table.proofs.Maps.{union_cases, union_left, union_right}
use Rattle.dd_table.proofs.OneView.{count_both}

none_of : (v : View) (r : ℕ) → IsSound v → HoldsNothing v → count_of r v.made ≡ 0
none_of v r s b = zero_of (count_of r v.made) (λ some'. let m = s.made r some' in b r m.0 m.1)
  where
    zero_of : (n : ℕ) → (0 < n → ⊥) → n ≡ 0
    zero_of zero h = refl
    zero_of (suc n) h = absurd (h (omega arith))

nothing_joined : (v u : View) → HoldsNothing v → HoldsNothing u → HoldsNothing (joined_view v u)
nothing_joined v u a b r n e = ⊎_elim (a r n) (b r n) (union_cases v.held u.held r n e)

-- two seats that hold nothing
pub sound_nothing : (v u : View) → IsSound v → IsSound u → HoldsNothing v → HoldsNothing u → IsSound (joined_view v u)
sound_nothing v u f g a b =
    let nothing = nothing_joined v u a b in
    let none : (r : ℕ) → count_of r (v.made ++ u.made) ≡ 0 = λ r.
    let t = count_both r v.made u.made in
    let p = none_of v r f a in
    let q = none_of u r g b in
    omega arith in
    record {
      near = λ r n e. absurd (nothing r n e);
      nodes = λ r n e. absurd (nothing r n e);
      closed = λ r n e. absurd (nothing r n e);
      once = λ r q n e d. absurd (nothing r n e);
      word = λ r n e. absurd (nothing r n e);
      made = λ r some'. let z = none r in absurd (omega arith);
      apart = λ r. let z = none r in omega arith;
      used = let x = f.used in let y = g.used in omega (arith, length-append v.made u.made);
      last = λ r n e. absurd (b r n e);
    }

-- the sessions of one table have its slots
pub same_slots : (s o : Inside) (t : TableId) → IsSession s → IsSession o → s.seat.table_id ≡ t → o.seat.table_id ≡ t → o.seat.me.0.slots ≡ s.seat.me.0.slots
same_slots s o t i j a b = j.slots ∙ sym j.words ∙ ap (λ (x : TableId). x.words) (b ∙ sym a) ∙ i.words ∙ sym i.slots

-- the held reference that is kept of two
abbrev pub Picked : Inside → Inside → ℕ → Type 0
Picked s o x = ((s.some ≡ 0) × (x ≡ o.some)) ⊎ ((s.some ≢ 0) × (x ≡ s.some))

pub picked_some : (s o : Inside) (x : ℕ) → IsSession s → IsSession o → o.seat.me.0.slots ≡ s.seat.me.0.slots → Picked s o x → x ≢ 0 → IsHeldByOne s.seat.me.0 o.seat.me.0 x
picked_some s o x i j slots (inl (zero', is)) ne =
    let v = s.seat.me.0 in
    let u = o.seat.me.0 in
    let h = j.some (λ z. ne (is ∙ z)) in
    let near = j.sound.near o.some h.0 h.1 in
    let a = near.0 in
    let b = near.1 in
    let held = union_right v.held u.held o.some h.0 h.1 (λ y e. absurd (i.none zero' o.some y e)) in
    subst (IsHeldByOne v u) (sym is) (near.0, omega arith, (h.0, held))
picked_some s o x i j slots (inr (some', is)) ne =
    let v = s.seat.me.0 in
    let u = o.seat.me.0 in
    let h = i.some some' in
    let near = i.sound.near s.some h.0 h.1 in
    subst (IsHeldByOne v u) (sym is) (near.0, near.1, (h.0, union_left v.held u.held s.some h.0 h.1))

pub picked_none : (s o : Inside) (x : ℕ) → IsSession s → IsSession o → Picked s o x → x ≡ 0 → HoldsNothing s.seat.me.0 × HoldsNothing o.seat.me.0
picked_none s o x i j (inl (zero', is)) z = (i.none zero', j.none (sym is ∙ z))
picked_none s o x i j (inr (some', is)) z = absurd (some' (sym is ∙ z))

pub picked_nothing : (s o : Inside) (x : ℕ) → IsSession s → IsSession o → Picked s o x → x ≡ 0 → HoldsNothing (joined_view s.seat.me.0 o.seat.me.0)
picked_nothing s o x i j p z = let both = picked_none s o x i j p z in nothing_joined s.seat.me.0 o.seat.me.0 both.0 both.1
