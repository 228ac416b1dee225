use Rattle.std.proofs.Common.{◌≡◌, ◌≤◌, drop, length, take, ◌-◌, ap, sym, arith}
use Rattle.shard_top.specs.Streams.{SourceState}
use Rattle.shard_top.proofs.StreamLemmas.{given_piece, given_none}
use Rattle.shard_top.proofs.memory.MemorySourceSource.take.Goals as goal

pub returns-clause-bytes : goal.returns-clause-bytes
returns-clause-bytes c =
    let left : c.args.self.now.left ≡ drop c.self.inside.done c.self.inside.bytes.items = ap (λ (s : SourceState). s.left) (sym c.self.view_is) in
    let within : c.min-n.result ≤ length (take (length c.deref.result.now - c.self.inside.done) (drop c.self.inside.done c.deref.result.now)) = omega (arith, c.min-n.ensures) in (
      given_piece _ _ c.deref.result.now c.args.room.now c.copy_from_slice.new.self c.self.inside.done c.min-n.result left c.deref.ensures.value within c.copy_from_slice.ensures.after,
      given_none c.self.inside.bytes.items c.deref.result.now c.args.room.now c.copy_from_slice.new.self c.self.inside.done c.min-n.result c.min.result c.self.inside.piece c.deref.ensures.value c.min-n.ensures c.min.ensures c.self.invariant.1 c.copy_from_slice.ensures.len,
    )
