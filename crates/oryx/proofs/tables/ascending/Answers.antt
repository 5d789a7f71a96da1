use Rattle.std.proofs.Common.{ℕ, ◌∙◌, rules}
use Rattle.std.proofs.lemmas.List.FromFn.{fill_by_all}
use Rattle.std.proofs.lemmas.List.{map-id}
use Rattle.oryx.proofs.tables.ascending.Goals as goal

pub returns : goal.returns
returns c = fill_by_all (λ (k : ℕ). k) _ 256 0 c.from_fn.ensures.items.long (λ k h. let called = c.from_fn.ensures.items.at k 0 h in search rules) ∙ map-id _
