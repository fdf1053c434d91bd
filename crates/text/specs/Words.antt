-- The model's word for each word of the code.
-- Assumes nothing.
use Rattle.model.specs.Text.{LineWord as ModelWord, Seg as seg, Mux as mux, Out as out, Hold as hold, Write as write, Read as read, Csu as csu}
use Rattle.text.specs.declared.LineWord.{LineWord}
use Rattle.text.specs.declared.LineWord.TheVariants.{Seg, Mux, Out, Hold, Write, Read, Csu}

abbrev pub word_for : LineWord → ModelWord
word_for Seg = seg
word_for Mux = mux
word_for Out = out
word_for Hold = hold
word_for Write = write
word_for Read = read
word_for Csu = csu
