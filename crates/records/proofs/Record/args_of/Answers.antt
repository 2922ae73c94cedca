-- `args_of` is the record's arguments, word by word.
use Rattle.definitions.specs.Sheet.{args_of, alpha_of, beta_of}
use Rattle.records.proofs.Judgements.{word-is, word_small}
use Rattle.records.proofs.Record.args_of.Goals as goal

pub returns : goal.returns
unfolding args_of alpha_of beta_of
returns c = (
  λ i. record {
    routine = c.args.routine;
    side = word-is c.word.result _ c.word.type_inv c.word.ensures i;
    uplo = word-is c.word-2.result _ c.word-2.type_inv c.word-2.ensures i;
    transa = word-is c.word-3.result _ c.word-3.type_inv c.word-3.ensures i;
    transb = word-is c.word-4.result _ c.word-4.type_inv c.word-4.ensures i;
    diag = word-is c.word-5.result _ c.word-5.type_inv c.word-5.ensures i;
    m = word-is c.word-6.result _ c.word-6.type_inv c.word-6.ensures i;
    n = word-is c.word-7.result _ c.word-7.type_inv c.word-7.ensures i;
    k = word-is c.word-8.result _ c.word-8.type_inv c.word-8.ensures i;
    alpha = c.from-alpha.ensures i;
    beta = c.from-beta.ensures i;
    lda = word-is c.word-9.result _ c.word-9.type_inv c.word-9.ensures i;
    ldb = word-is c.word-10.result _ c.word-10.type_inv c.word-10.ensures i;
    ldc = word-is c.word-11.result _ c.word-11.type_inv c.word-11.ensures i;
    lena = c.part_length-lena.ensures i;
    lenb = c.part_length-lenb.ensures i;
    lenc = c.part_length-lenc.ensures i;
  },
  word_small c.word-6.result c.word-6.type_inv,
  word_small c.word-7.result c.word-7.type_inv,
)
