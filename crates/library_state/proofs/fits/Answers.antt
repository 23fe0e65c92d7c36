use borrow.Author.Tests.{le-leb, lt-leb}
use Rattle.library.specs.Buffers.{fits}
use Rattle.library_state.proofs.fits.Goals as goal

pub returns-then-rows-n : goal.returns-then-rows-n
unfolding fits
returns-then-rows-n c = simp (lt-leb _ _ c.if-rows-n.true)

pub returns-then-constant_tags-n : goal.returns-then-constant_tags-n
unfolding fits
returns-then-constant_tags-n c = simp (lt-leb _ _ c.if-constant_tags-n.true, le-leb _ _ c.if-rows-n.false)

pub returns-then-constant_words-n : goal.returns-then-constant_words-n
unfolding fits
returns-then-constant_words-n c = simp (lt-leb _ _ c.if-constant_words-n.true, le-leb _ _ c.if-constant_tags-n.false, le-leb _ _ c.if-rows-n.false)

pub returns-then-register_tags-n : goal.returns-then-register_tags-n
unfolding fits
returns-then-register_tags-n c = simp (lt-leb _ _ c.if-register_tags-n.true, le-leb _ _ c.if-constant_words-n.false, le-leb _ _ c.if-constant_tags-n.false, le-leb _ _ c.if-rows-n.false)

pub returns-then-register_words-n : goal.returns-then-register_words-n
unfolding fits
returns-then-register_words-n c = simp (lt-leb _ _ c.if-register_words-n.true, le-leb _ _ c.if-register_tags-n.false, le-leb _ _ c.if-constant_words-n.false, le-leb _ _ c.if-constant_tags-n.false, le-leb _ _ c.if-rows-n.false)

pub returns-then-program-n : goal.returns-then-program-n
unfolding fits
returns-then-program-n c = simp (lt-leb _ _ c.if-program-n.true, le-leb _ _ c.if-register_words-n.false, le-leb _ _ c.if-register_tags-n.false, le-leb _ _ c.if-constant_words-n.false, le-leb _ _ c.if-constant_tags-n.false, le-leb _ _ c.if-rows-n.false)

pub returns-then-data_tags-n : goal.returns-then-data_tags-n
unfolding fits
returns-then-data_tags-n c = simp (lt-leb _ _ c.if-data_tags-n.true, le-leb _ _ c.if-program-n.false, le-leb _ _ c.if-register_words-n.false, le-leb _ _ c.if-register_tags-n.false, le-leb _ _ c.if-constant_words-n.false, le-leb _ _ c.if-constant_tags-n.false, le-leb _ _ c.if-rows-n.false)

pub returns : goal.returns
unfolding fits
returns c = rw (le-leb _ _ c.if-rows-n.false, le-leb _ _ c.if-constant_tags-n.false, le-leb _ _ c.if-constant_words-n.false, le-leb _ _ c.if-register_tags-n.false, le-leb _ _ c.if-register_words-n.false, le-leb _ _ c.if-program-n.false, le-leb _ _ c.if-data_tags-n.false)
