-- Two drained runs that make the same frames were given the same items. Assumes nothing.
use mathlib.Core.Path.{◌≡◌, sym, ap, ◌∙◌}
use mathlib.Core.List.{List}
use Prim.Native.Nat.{ℕ}
use Rattle.model.specs.Demux.{fresh_demux, turn608_on}
use Rattle.model.specs.Mux.{fresh_mux}
use Rattle.model.specs.Run.{Call, Run, run, exact_count, Allowed, Drained, Read, read_frames, of_field1, of_field2, others}
use Rattle.model_journey.specs.Trip.{RoundTrip, SameItems}
use Rattle.model_journey.proofs.Trip.{round_trip}

-- what frames give, they give once
same_items : {r r' : Run} {o o' : Read} → o ≡ o' → RoundTrip r o → RoundTrip r' o' → SameItems r r'
same_items e t t' =
    record {
      packets = sym t.packets ∙ ap (λ (o : Read). o.packets) e ∙ t'.packets;
      pairs1 = sym t.pairs1 ∙ ap (λ (o : Read). others (of_field1 o.pairs)) e ∙ t'.pairs1;
      pairs2 = sym t.pairs2 ∙ ap (λ (o : Read). others (of_field2 o.pairs)) e ∙ t'.pairs2;
    }

-- two drained runs with different items never make the same frames [J2]
pub distinct : (cs cs' : List Call) → Allowed exact_count cs fresh_mux → Allowed exact_count cs' fresh_mux → Drained (run cs fresh_mux).last → Drained (run cs' fresh_mux).last
    → (run cs fresh_mux).frames ≡ (run cs' fresh_mux).frames → SameItems (run cs fresh_mux) (run cs' fresh_mux)
distinct cs cs' w w' d d' e = same_items (ap (λ (fs : List (List ℕ)). read_frames fs (turn608_on fresh_demux)) e) (round_trip cs w d) (round_trip cs' w' d')
