-- The law of a clear head, from that of the kind below.
use Rattle.std.specs.Prelude.{ℕ, ◌<◌, drop}
use Rattle.std.proofs.Common.{arith, length-append, length-take, length-drop, take-append-drop}
use Rattle.std.proofs.lemmas.List.Elements.{All-drop}
use Rattle.std.proofs.lemmas.List.{take_at, drop_at, length-take-le}
use Rattle.cipher.specs.Kind.{Kind, Lawful}
use Rattle.cipher.specs.Head.{headed}

-- a head over a lawful kind is a lawful kind
pub headed_lawful : (h : ℕ) (k : Kind) → Lawful k → Lawful (headed h k)
headed_lawful h k law =
    record {
      small = omega arith;
      same_length = λ o hook xs bytes low high.
          let inner = law.same_length o hook (drop h xs) (All-drop (λ x. x < 256) h xs bytes) in
          grind (arith, inner, length-append, length-take, length-drop);
      undoes_itself = λ o hook xs bytes low high.
          let inner = law.undoes_itself o hook (drop h xs) (All-drop (λ x. x < 256) h xs bytes) in
          grind (arith, inner, take_at, drop_at, length-take-le, length-drop, take-append-drop);
    }
