-- Each net of the model has the bit of its literal.
use Rattle.std.proofs.Common.{◌≡◌, ℕ, ◌+◌, ◌<◌, Bool, true, false, List, [], ◌∷◌, ◌++◌, map, length, get_or, None, Some, slice_get, refl, sym, ap, arith, subst, inl, inr, ◌∙◌}
use Rattle.std.specs.Prelude.{◌⊎◌, bytes_eq, if◌then◌else◌, not, filter, slice_index_or}
use Rattle.std.proofs.lemmas.Slice.Eq.{bytes_eq-Decides}
use Rattle.hierarchy.specs.Instances.{had_by, instances, is_bound, model_at}
use Rattle.hierarchy.specs.Lines.{signals}
use Rattle.hierarchy.specs.Nets.{InstanceSignal, nets, own_nets}
use Rattle.hierarchy.proofs.Members.{In, contains_from_in, filter_in, flat_map_in, in_append_left, in_append_right, in_at, in_map, map_in}
use Rattle.aig_model.specs.declared.aig.Aig.{Aig}
use Rattle.aig_model.specs.declared.aig.AigOutput.{AigOutput}
use Rattle.aig_model.specs.Corresponds.{HasBitsOf}
use Rattle.aig_model.specs.Literals.{literal_bit}
use Rattle.aig_model.specs.NetLiterals.{NetsHaveLiterals, literal_named, named_literals, net_bits}
use Rattle.aig_model.specs.Names.{output_names, own_opposite, variable_name}
use Rattle.aig_model.specs.Netlist.{model_of, opposites}
use Rattle.aig_model.specs.Sound.{IsSoundAig, variables}
use Rattle.aig_model.proofs.Bits.{even_bit}
use Rattle.aig_model.proofs.ModelLines.{named_outputs, no_model}
use Rattle.aig_model.proofs.Runs.{IsSignal, of_opposite, of_output, of_variable, signal_is}
use Rattle.aig_model.proofs.SignalBits.{one_named, opposite_thing, output_thing, placed, things, variable_thing}

-- the first of a name has its literal, where all of that name have one
literal_first : (pairs : List (List ℕ × ℕ)) (at : List ℕ × ℕ) → In pairs at →
    ((other : List ℕ × ℕ) → In pairs other → other.0 ≡ at.0 → other.1 ≡ at.1) →
    literal_named pairs at.0 ≡ at.1
literal_first [] at h only = absurd h
literal_first (x ∷ pairs) at h only = step (bytes_eq x.0 at.0) refl
    (λ g. literal_first pairs at g (λ other k. only other (inr k))) h
  where
    rest : bytes_eq x.0 at.0 ≡ false → (In pairs at → literal_named pairs at.0 ≡ at.1) →
        (x ≡ at) ⊎ In pairs at → literal_named pairs at.0 ≡ at.1
    rest e later (inl i) = absurd (cc (
      e,
      (bytes_eq-Decides x.0 at.0).1 (ap
          (λ (p : List ℕ × ℕ). p.0) i),
    ))
    rest e later (inr g) = later g

    step : (b : Bool) → bytes_eq x.0 at.0 ≡ b →
        (In pairs at → literal_named pairs at.0 ≡ at.1) → (x ≡ at) ⊎ In pairs at →
        (if b then x.1 else literal_named pairs at.0) ≡ at.1
    step true e later g = only x (inl refl) ((bytes_eq-Decides x.0 at.0).0 e)
    step false e later g = rest e later g

abbrev made_for : List ℕ → List ℕ → InstanceSignal
made_for path signal = record { path = path; signal = signal }

module _ (aig : Aig) (sound : IsSoundAig aig) (n : ℕ) (bit : ℕ → ℕ → Bool) (run : List ℕ → List ℕ →
    ℕ → Bool) (has : HasBitsOf aig n bit run) where
  of_name : (at : List ℕ × ℕ) → In (things aig) at → literal_named (named_literals aig) at.0 ≡ at.1
  of_name at h = literal_first (things aig) at h (λ other k. one_named aig sound at other h k)

  signal_bit : (signal : List ℕ) → IsSignal aig signal → (t : ℕ) → t < n →
      run [] signal t ≡ literal_bit (bit t) (literal_named (named_literals aig) signal)
  signal_bit signal (of_variable v h e) t lt = subst
      (λ s. run [] s t ≡ literal_bit (bit t) (literal_named (named_literals aig) s)) e
      (has.mentioned t v lt (contains_from_in (variables aig) v h) ∙ sym (even_bit (bit t) v)
      ∙ ap (literal_bit (bit t)) (sym (of_name (variable_thing aig v) (in_append_left (map
      (variable_thing aig) (variables aig)) _ (variable_thing aig v) (in_map (variable_thing aig)
      (variables aig) v h)))))
  signal_bit signal (of_opposite v h e) t lt = subst
      (λ s. run [] s t ≡ literal_bit (bit t) (literal_named (named_literals aig) s)) e
      (has.opposite t v lt (contains_from_in (opposites aig) v h)
      ∙ ap (literal_bit (bit t)) (sym (of_name (opposite_thing v) (in_append_right (map
      (variable_thing aig) (variables aig)) _ (opposite_thing v) (in_append_left (map opposite_thing
      (opposites aig)) _ (opposite_thing v) (in_map opposite_thing (opposites aig) v h))))))
  signal_bit signal (of_output at h e) t lt =
      let p = placed aig at h in
      subst (λ s. run [] s t ≡ literal_bit (bit t) (literal_named (named_literals aig) s)) e
      (has.outputs t p.0 at.0 at.1 lt p.1 p.2
      ∙ ap (literal_bit (bit t)) (sym (of_name (output_thing at) (in_append_right (map
      (variable_thing aig) (variables aig)) _ (output_thing at) (in_append_right (map opposite_thing
      (opposites aig)) _ (output_thing at) (in_map output_thing (named_outputs aig) at h))))))

  -- a net of the model is made for a signal of the top
  net_signal : (path : List ℕ) (net : InstanceSignal) →
      In (own_nets (model_of aig ∷ []) path) net →
      (net.path ≡ []) × In (signals (model_of aig)) net.signal
  net_signal [] net h =
      let r = map_in (made_for []) (filter
      (λ s. not (is_bound (model_of aig ∷ []) [] s)) (signals (model_of aig))) net h in
      let f = filter_in (λ s. not (is_bound (model_of aig ∷ []) [] s)) (signals (model_of aig)) r.0
      r.1 in (
        sym (ap (λ (x : InstanceSignal). x.path) r.2),
        subst (λ s. In (signals (model_of aig)) s) (ap (λ (x : InstanceSignal). x.signal) r.2) f.0,
      )
  net_signal (number ∷ above) net h =
      let r = map_in (made_for (number ∷ above)) (filter (λ s. not (is_bound (model_of aig ∷ []) (number ∷ above) s))
      (had_by signals (model_at (model_of aig ∷ []) (number ∷ above)))) net h in
      let f = filter_in (λ s. not (is_bound (model_of aig ∷ []) (number ∷ above) s)) (had_by signals
      (model_at (model_of aig ∷ []) (number ∷ above))) r.0 r.1 in
      absurd (subst (λ o. In (had_by signals o) r.0) (no_model aig number above) f.0)

  net_bit : (net : InstanceSignal) → In (nets (model_of aig ∷ [])) net → (t : ℕ) → t < n →
      run net.path net.signal t
      ≡ literal_bit (bit t) (literal_named (named_literals aig) net.signal)
  net_bit net h t lt =
      let r = flat_map_in (λ path. own_nets (model_of aig ∷ []) path) (instances (model_of aig ∷
      [])) net h in
      let s = net_signal r.0 net r.2 in
      subst (λ path. run path net.signal t
      ≡ literal_bit (bit t) (literal_named (named_literals aig) net.signal)) (sym s.0)
      (signal_bit net.signal (signal_is aig net.signal s.1) t lt)

pub nets_have_literals : NetsHaveLiterals
nets_have_literals aig sound n bit run has t id lt within =
    let d : InstanceSignal = record { path = []; signal = [] } in
    net_bit aig sound n bit run has (get_or (nets (model_of aig ∷ [])) id d) (in_at (nets (model_of
    aig ∷ [])) id d within) t lt
