use Rattle.std.proofs.Common.{◌≡◌, ◌+◌, length, ◌∙◌, arith}
use Rattle.std.proofs.lemmas.List.{length-take, length-drop}
use Rattle.std.proofs.lemmas.Slice.{take-put_mid_below, drop-put_mid}
use Rattle.rules.specs.Limits.{most_held}
use Rattle.board.proofs.Cells.{port_read, port_written}
use Rattle.board.specs.Cells.{port_start}
use Rattle.board.proofs.Meanings.{apart, hands_as, means_as, means_still}
use Rattle.board.proofs.store.commit.Goals as goal

pub returns-clause-here : goal.returns-clause-here
returns-clause-here g c =
    let cells = c.args.cells.now in
    let p = c.args.o.port in
    let part = c.commit.new.cells in
    let long : length part ≡ most_held = c.commit.auto.cells ∙ simp (length-take, length-drop) (omega arith) in
    rw (c.from.ensures, port_written cells part p c.requires.port c.requires.cells long, ← port_read cells p) (rw c.from.ensures at c.commit.ensures.here)

pub returns-clause-behind : goal.returns-clause-behind
returns-clause-behind g c =
    let after = port_start c.args.o.port + most_held in
    rw c.from.ensures (drop-put_mid (port_start c.args.o.port) _ c.args.cells.now c.commit.new.cells after (omega arith) (omega arith) (omega arith))

pub returns-clause-before : goal.returns-clause-before
returns-clause-before g c = rw c.from.ensures (take-put_mid_below (port_start c.args.o.port) _ c.args.cells.now c.commit.new.cells (port_start c.args.o.port) (omega arith) (omega arith))

pub returns-clause-means : goal.returns-clause-means
returns-clause-means g c d = means_as _ _ _ d _ _ _ _ _ (returns-clause-here g c) (apart _ _ _ (returns-clause-before g c) (returns-clause-behind g c))

pub returns-clause-hands : goal.returns-clause-hands
returns-clause-hands g c d = hands_as _ _ _ d _ _ _ _ _ (returns-clause-here g c)

pub returns-clause-others_mean : goal.returns-clause-others_mean
returns-clause-others_mean g c d k n e = rw (c.commit.ensures.others k n) (means_still d _ _ _ _ (apart _ _ _ (returns-clause-before g c) (returns-clause-behind g c)) e)
