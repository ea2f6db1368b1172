-- `order_lines::Cursor::put_name` meets its contract. The invariant: what is left of the text, put too, is the whole.
use mathlib.Core.Path.{ap, ◌∙◌}
use Prim.Native.Nat.{◌%◌, ◌<◌}
use lib.ListN.{get_or}
use Rattle.base_words.specs.Words.{bytes_of}
use native.Mathlib.Omega.{arith}
use Rattle.order_lines.proofs.Bytes.{byte_is, inside, name_long, name_begin, name_again, name_finish, puts_at}
use Rattle.order_lines.proofs.Cursor.put_name.Goals as goal

pub loop-k-init : goal.loop-k-init
loop-k-init c = name_begin c.requires c.args.self.now.out.now c.args.self.now.long

pub loop-k-preserved : goal.loop-k-preserved
unfolding bytes_of
loop-k-preserved c =
    let less : c.loop-k.k < get_or c.args.words.now c.args.p 0 = omega (arith, name_long c.requires, c.loop-k.invariant.long) in
    name_again c.requires c.loop-k.invariant less (ap (λ l. get_or l (c.loop-k.k % 4) 0) c.to_le_bytes.ensures ∙ byte_is _ _ _ c.requires.words_long (inside c.requires c.loop-k.invariant less))

pub returns-clause-puts : goal.returns-clause-puts
returns-clause-puts c =
    let l = name_long c.requires in
    puts_at _ _ _ _ _ (omega (arith, l)) (name_finish c.requires c.loop-k.invariant (omega (arith, l, c.loop-k.invariant.long))) (omega (arith, c.args.self.now.long, c.requires.fits))
