use Rattle.std.proofs.Common.{refl, ◌∙◌, arith}
use Rattle.std.proofs.lemmas.Slice.{put_mid-paste}
use Rattle.times.specs.Coding.{word_bytes}
use Rattle.plan_writer.proofs.putting.put_word.Goals as goal

pub returns : goal.returns
returns c =
    put_mid-paste c.args.place _ c.args.file.now _ (word_bytes c.args.word) 4 (c.copy_from_slice.ensures.after ∙ c.to_be_bytes.ensures) (omega arith) refl
