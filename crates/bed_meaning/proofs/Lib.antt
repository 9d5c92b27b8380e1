mod Steady
mod Turn
mod Numbers
