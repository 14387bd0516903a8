use mathlib.Core.Path.{◌≡◌, ap, sym, subst, ◌∙◌}
use Prim.Native.Nat.{ℕ}
use lib.ListN.{length}
use Rattle.codepage_lookup.specs.Tables.{byte_reader}
use Rattle.codepage_lookup.specs.declared.tables.ByteTables.{ByteTables}
use Rattle.engine.specs.declared.Policy.{Policy}
use Rattle.engine.specs.Converters.{by_bytes, by_leads}
use Rattle.engine.specs.Engine.{Converter, converter, limit, feed_from}
use Rattle.engine.specs.Pending.{waiting}
use Rattle.engine.proofs.DecodeLaws.{decoder_waits}
use Rattle.engine_loops.specs.Turns.{Loop}
use Rattle.engine_loops.proofs.TurnedLaws.{loop_first}
use Rattle.engine_loops.proofs.decoder.decode_codes.Goals as goal

pub returns : goal.returns
returns c =
    let v = c.args.v.now in
    let w = c.with_leads.result in
    let found = c.with_leads.ensures in
    let one : by_leads w ≡ by_bytes v =
    ap (λ (t : ByteTables). converter (byte_reader t) w.policy w.default) found.0
    ∙ ap (λ (p : Policy). converter (byte_reader v.tables) p w.default) found.1
    ∙ ap (λ (d : ℕ). converter (byte_reader v.tables) v.policy d) found.2 in
    let begun = loop_first (by_bytes v) c.args.last c.args.pending c.args.piece.now c.args.out.now (λ lead e. decoder_waits _ _ _ _ _ _ _ (c.requires lead e)) c.first_turn-start.ensures in
    let fed = feed_from (by_bytes v) c.args.last (limit (length c.args.out.now)) (waiting c.args.pending) c.args.piece.now in
    c.decode_rest.ensures.1 _ _ (subst (λ (x : Converter). Loop x c.args.last fed c.args.out.now c.args.piece.now c.args.out.now c.first_turn-start.result) (sym one) begun)
