mod Numbers
mod Said
mod Simple
