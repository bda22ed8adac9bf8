use Rattle.std.proofs.Common.{◌≡◌, ◌<◌, ◌≤◌, length, get_or, rules}
use Rattle.tokens.specs.Tokens.{place}
use Rattle.tokens.specs.Reading.{placed}
use Rattle.grammar.specs.declared.part.Part.{Part}
use Rattle.script.proofs.Composing.{place_at, part_place}
use Rattle.script.proofs.parsed.Parsed.place.Goals as goal

pub returns : goal.returns
returns c =
    let text = c.args.self.now.text.now in
    let ps = c.deref.result.now in
    let here : (d : Part) → c.args.part < length ps → c.map_or.result ≡ place (placed (get_or ps c.args.part d).token) = search rules in
    let past : length ps ≤ c.args.part → c.map_or.result ≡ length text = search rules in
    part_place text _ ps c.args.self.now.formed c.deref.ensures.value _ _ (place_at (λ p. placed p.token) ps (length text) c.args.part _ here past)
