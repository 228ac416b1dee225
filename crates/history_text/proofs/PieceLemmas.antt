-- A history in pieces.
use Rattle.std.specs.Prelude.{codes}
use Rattle.std.proofs.lemmas.List.{append_assoc}
use Rattle.tablet_text.specs.Stands.{line}
use Rattle.vtctld_text.specs.Texts.{commands_of}
use Rattle.history_text.specs.Declarations.{declarations_text}
use Rattle.history_text.specs.Histories.{step_lines, history_text, opening_text}
use Rattle.history_text.specs.Laws.{PiecesAreTheWhole}

pub pieces_are_the_whole : PiecesAreTheWhole
unfolding opening_text history_text
pieces_are_the_whole shard policy tablets moment steps =
    append_assoc (declarations_text shard policy tablets moment) (line (codes "history")) (step_lines (commands_of steps) steps)
