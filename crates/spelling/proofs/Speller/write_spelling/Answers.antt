use Rattle.spelling.proofs.LoopLaws.{writing_rest, writable}
use Rattle.spelling.proofs.SameLaws.{same_begun}
use Rattle.spelling.proofs.Speller.write_spelling.Goals as goal

pub returns : goal.returns
returns c =
    writing_rest _ _ _ _ c.args.out.now _ _ _ (same_begun _ _ _ _ c.args.out.now _ c.requires.span_same.0 c.requires.span_same.1 (writable _ _ _ _ _ c.requires.text_value) _ _ c.put_bytes.ensures).0 _ c.write_rest.ensures
